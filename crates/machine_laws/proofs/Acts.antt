-- What a definition says alike of several kinds of act, for the arm of a match that stands for them all. Its answers at the kinds'
-- numbers are one list, which computes; and an act is the one of its number with its fields. Assumes nothing.
use Prim.Native.Nat.{ℕ}
use mathlib.Core.Bool.{Bool, false}
use mathlib.Core.List.{List, [], ◌∷◌, map}
use mathlib.Core.Logic.{inl, inr}
use mathlib.Core.Path.{◌≡◌, ap, ◌∙◌}
use lib.ListN.{get_or, drop}
use types.Run.{OneOf}
use denote.Enum.Declared.{tag_of}
use Rattle.machine.specs.contracts.Act.{the_type}
use Rattle.machine.specs.declared.Act.{Act}
use Rattle.machine.specs.declared.Act.TheVariants as act
use Rattle.machine.specs.declared.ByteAddr.{ByteAddr}
use Rattle.machine.specs.Effect.{byte_addr}

-- the act of a number, with these fields where it has them
abbrev pub act_of : (d : ℕ) (byte : Bool) (at : ByteAddr) (value : ℕ) → ℕ → Act
act_of d byte at value k =
    get_or (act.Stopped ∷ act.Pull ∷ act.Chain d ∷ act.Accept d ∷ act.Sleep ∷ act.Fault d ∷ act.Halt ∷ act.Skip ∷ act.Trap d ∷ act.Plain
    ∷ act.Loads byte at d ∷ act.Stores byte at value ∷ []) k act.Stopped

-- a definition's answers at the acts of these numbers
abbrev pub answers : {B : Type 0} → (Act → B) → List ℕ → (d : ℕ) (byte : Bool) (at : ByteAddr) (value : ℕ) → List B
answers f ks d byte at value = map (λ k. f (act_of d byte at value k)) ks

same_at : {B : Type 0} (g : ℕ → B) (b : B) (ks : List ℕ) → map g ks ≡ map (λ k. b) ks → (n : ℕ) → OneOf ks n → g n ≡ b
same_at g b [] h n e = absurd e
same_at g b (k ∷ []) h n e = ap g e ∙ ap (λ l. get_or l 0 b) h
same_at g b (k ∷ j ∷ ks) h n (inl e) = ap g e ∙ ap (λ l. get_or l 0 b) h
same_at g b (k ∷ j ∷ ks) h n (inr e) = same_at g b (j ∷ ks) (ap (drop 1) h) n e

module _ {B : Type 0} (f : Act → B) (b : B) (ks : List ℕ) (alike : answers f ks ≡ answers (λ a. b) ks) where
  at-number : (d : ℕ) (byte : Bool) (at : ByteAddr) (value n : ℕ) → OneOf ks n → f (act_of d byte at value n) ≡ b
  at-number d byte at value = same_at (λ k. f (act_of d byte at value k)) b ks (ap (λ g. g d byte at value) alike)

  -- where all those answers are one, it is the answer at an act of one of the numbers; `alike` is `refl`
  pub of-these : (a : Act) → OneOf ks (tag_of the_type a) → f a ≡ b
  of-these act.Stopped e = at-number 0 false (byte_addr 0) 0 0 e
  of-these act.Pull e = at-number 0 false (byte_addr 0) 0 1 e
  of-these (act.Chain d) e = at-number d false (byte_addr 0) 0 2 e
  of-these (act.Accept d) e = at-number d false (byte_addr 0) 0 3 e
  of-these act.Sleep e = at-number 0 false (byte_addr 0) 0 4 e
  of-these (act.Fault v) e = at-number v false (byte_addr 0) 0 5 e
  of-these act.Halt e = at-number 0 false (byte_addr 0) 0 6 e
  of-these act.Skip e = at-number 0 false (byte_addr 0) 0 7 e
  of-these (act.Trap v) e = at-number v false (byte_addr 0) 0 8 e
  of-these act.Plain e = at-number 0 false (byte_addr 0) 0 9 e
  of-these (act.Loads byte at d) e = at-number d byte at 0 10 e
  of-these (act.Stores byte at value) e = at-number 0 byte at value 11 e
