use mathlib.Core.Logic.{inr}
use Rattle.stretch_formats.proofs.Laws.{means, decode-link}
use native.Mathlib.Omega.{arith}
use Rattle.flags.specs.Kept.{held_in}
use Rattle.stretch_formats.proofs.jump_word.Goals as goal

-- BL
pub returns-in_default : goal.returns-in_default
returns-in_default c =
    let a = c.args in
    λ free m psw.
    let p = held_in psw a.kept.now in
    means free _ a.w a.regs.now m _ p _ p _ _
    (decode-link a.w (omega arith)) (inr (c.link_word.ensures p))

pub returns-then-w-ge15872 : goal.returns-then-w-ge15872
returns-then-w-ge15872 c free m psw = c.branch_row.ensures free _ m psw c.requires.0

pub returns-in-16 : goal.returns-in-16
returns-in-16 c free m psw = c.branch_row-in-16.ensures free _ m psw c.requires.0

pub returns-in-17 : goal.returns-in-17
returns-in-17 c free m psw = c.branch_row-in-17.ensures free _ m psw c.requires.0

pub returns-in-18 : goal.returns-in-18
returns-in-18 c free m psw = c.branch_row-in-18.ensures free _ m psw c.requires.0

pub returns-in-19 : goal.returns-in-19
returns-in-19 c free m psw = c.branch_row-in-19.ensures free _ m psw c.requires.0

pub returns-in-20 : goal.returns-in-20
returns-in-20 c free m psw = c.branch_row-in-20.ensures free _ m psw c.requires.0

pub returns-in-21 : goal.returns-in-21
returns-in-21 c free m psw = c.branch_row-in-21.ensures free _ m psw c.requires.0

pub returns-in-22 : goal.returns-in-22
returns-in-22 c free m psw = c.branch_row-in-22.ensures free _ m psw c.requires.0

pub returns-in-23 : goal.returns-in-23
returns-in-23 c free m psw = c.branch_row-in-23.ensures free _ m psw c.requires.0

pub returns-in-24 : goal.returns-in-24
returns-in-24 c free m psw = c.branch_row-in-24.ensures free _ m psw c.requires.0

pub returns-in-25 : goal.returns-in-25
returns-in-25 c free m psw = c.branch_row-in-25.ensures free _ m psw c.requires.0

pub returns-in-26 : goal.returns-in-26
returns-in-26 c free m psw = c.branch_row-in-26.ensures free _ m psw c.requires.0

pub returns-in-27 : goal.returns-in-27
returns-in-27 c free m psw = c.branch_row-in-27.ensures free _ m psw c.requires.0

pub returns-in-28 : goal.returns-in-28
returns-in-28 c free m psw = c.branch_row-in-28.ensures free _ m psw c.requires.0

pub returns-in-29 : goal.returns-in-29
returns-in-29 c free m psw = c.branch_row-in-29.ensures free _ m psw c.requires.0

pub returns-in-30 : goal.returns-in-30
returns-in-30 c free m psw = c.branch_row-in-30.ensures free _ m psw c.requires.0
