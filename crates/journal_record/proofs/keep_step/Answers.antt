-- With no journal lent, nothing is kept. Else the record is written at the next place, and the two numbers are those that `keep` gives;
-- that the place lies inside the journal is what a journal that fits has (`RingFits`). Assumes nothing.
use Rattle.std.proofs.Common.{◌*◌, ap, ◌∙◌, arith}
use lib.Seq.{sets}
use Rattle.machine.specs.State.{state_of}
use Rattle.machine.specs.Record.{record_of}
use Rattle.journal.specs.Record.{bytes_from, fields_of}
use Rattle.journal_record.proofs.Laws.{none_kept, one_kept, still-lends}
use Rattle.journal_record.proofs.keep_step.Goals as goal

pub returns-then-journal-eq0 : goal.returns-then-journal-eq0
returns-then-journal-eq0 c = let s = c in record {
  kept = (λ b k w q. none_kept s.args.journal.now s.args.r _ c.if-journal-eq0.true);
  lends = s.requires;
}

pub overflow_cast-places : goal.overflow_cast-places
overflow_cast-places c =
    let s = c in
    let f = s.requires (omega (arith, c.if-journal-eq0.false)) in
    omega (arith, f.small)

pub one_more-requires : goal.one_more-requires
one_more-requires c =
    let at-if1 = c in
    let s = c in
    let f = s.requires (omega (arith, at-if1.if-journal-eq0.false)) in
    f.kept

pub place_after-requires : goal.place_after-requires
place_after-requires c =
    let at-if1 = c in
    let s = c in
    let f = s.requires (omega (arith, at-if1.if-journal-eq0.false)) in
    f.place

pub returns : goal.returns
returns c =
    let at-address-of = c in
    let at-if1 = c in
    let s = c in
    let f = s.requires (omega (arith, at-if1.if-journal-eq0.false)) in
    let j = s.args.journal.now in
    let p = c.put_record in
    let k = c.one_more.ensures in
    let q = c.place_after.ensures in record {
      kept = (λ b u w e. let a = at-address-of.address_of.ensures u e in
          one_kept j _ s.args.r _ _ (omega (arith, at-if1.if-journal-eq0.false))
          (p.ensures b w
          ∙ ap (λ a. sets j (64 * s.args.r.place) (fields_of (record_of (state_of s.args.m b)) (bytes_from b 0 16) a
          (bytes_from b a 8))) a) k q);
      lends = still-lends j _ s.args.r _ f (omega arith) k q;
    }
