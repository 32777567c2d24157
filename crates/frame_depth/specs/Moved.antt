-- A move of the depth, as the code names it: nothing, one entry that pushed, one return that pulled (document 02, §10).
-- Assumes nothing.
use Rattle.machine.specs.declared.Depth.{Depth}
use Rattle.machine.specs.Depth.{deeper, shallower}
use Rattle.frame_depth.specs.declared.Move.{Move}
use Rattle.frame_depth.specs.declared.Move.TheVariants.{Nothing, Pushes, Pulls}

-- the depth after it. [02 §10]
abbrev pub moved_by : Move → Depth → Depth
moved_by Nothing p = p
moved_by Pushes p = deeper p
moved_by Pulls p = shallower p
