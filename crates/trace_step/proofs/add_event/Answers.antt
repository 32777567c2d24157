use Rattle.trace_step.proofs.Laws.{event-written}
use Rattle.trace_step.proofs.add_event.Goals as goal

pub returns : goal.returns
returns c =
    let a = c.args in
    event-written a.b a.devices.now a.lines _ a.e a.trace.now _ _ _ c.events_waiting.ensures c.event_bits.ensures
    c.put_record.ensures
