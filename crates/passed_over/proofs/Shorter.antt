-- An event list less its first records: its records are those of the list from there on, and the records left out are
-- due at no later step. Assumes nothing.
use Prim.Native.Nat.{ℕ, zero, suc, ◌+◌, ◌-◌, ◌*◌, ◌<◌, ◌≤◌}
use native.Mathlib.Omega.{arith}
use mathlib.Core.Bool.{Bool, cond}
use mathlib.Core.List.{List, ◌∷◌}
use mathlib.Core.Logic.{◌≢◌}
use mathlib.Core.Path.{◌≡◌, refl, sym, ap, ◌∙◌}
use lib.ListN.{length-drop}
use lib.Seq.{get_or-drop}
use Rattle.machine.specs.State.{State}
use Rattle.machine.specs.Memory.{byte_at}
use Rattle.machine.specs.Record.{two_at, four_at}
use Rattle.machine.specs.Events.{event_at, events_from, event_count, events_of}
use Rattle.machine.specs.Devices.{event_on, deliver_at}
use Rattle.machine_laws.proofs.Cases.{not-eq}
use Rattle.passed_over.specs.PassedOver.{less_first}

module _ (b : List ℕ) (k : ℕ) where
  -- a byte of record j
  pub byte-less : (j c : ℕ) → byte_at (less_first k b) (8 * j + c) ≡ byte_at b (8 * (k + j) + c)
  byte-less j c =
      let e : 8 * k + (8 * j + c) ≡ 8 * (k + j) + c = omega arith in
      get_or-drop (8 * k) b (8 * j + c) 0 ∙ ap (byte_at b) e

  two-less : (j c : ℕ) → two_at (less_first k b) (8 * j + c) ≡ two_at b (8 * (k + j) + c)
  two-less j c =
      let e : 8 * j + c + 1 ≡ 8 * j + (c + 1) = omega arith in
      let f : 8 * (k + j) + (c + 1) ≡ 8 * (k + j) + c + 1 = omega arith in
      let high : byte_at (less_first k b) (8 * j + c + 1) ≡ byte_at b (8 * (k + j) + c + 1) =
      ap (byte_at (less_first k b)) e ∙ byte-less j (c + 1) ∙ ap (byte_at b) f in
      λ i. byte-less j c i + 256 * high i

  pub zeros-less : (j : ℕ) → two_at (less_first k b) (8 * j + 6) ≡ two_at b (8 * (k + j) + 6)
  zeros-less j = two-less j 6

  -- record j
  pub event-less : (j : ℕ) → event_at (less_first k b) j ≡ event_at b (k + j)
  unfolding event_at
  event-less j =
      let e : 8 * j ≡ 8 * j + 0 = omega arith in
      let f : 8 * (k + j) + 0 ≡ 8 * (k + j) = omega arith in
      let low : two_at (less_first k b) (8 * j) ≡ two_at b (8 * (k + j)) =
      ap (two_at (less_first k b)) e ∙ two-less j 0 ∙ ap (two_at b) f in
      let step : four_at (less_first k b) (8 * j) ≡ four_at b (8 * (k + j)) = λ i. low i + 65536 * two-less j 2 i in
      λ i. record { step = step i; device = byte-less j 4 i; byte = byte-less j 5 i }

  events-less : (j n : ℕ) → events_from (less_first k b) j n ≡ events_from b (k + j) n
  unfolding events_from
  events-less j zero = refl
  events-less j (suc n) =
      let e : k + suc j ≡ suc (k + j) = omega arith in
      let later = events-less (suc j) n ∙ ap (λ i. events_from b i n) e in
      λ i. event-less j i ∷ later i

  pub count_less : event_count (less_first k b) ≡ event_count b - k
  count_less = let l = length-drop (8 * k) b in omega (arith, l)

  pub list-less : events_of (less_first k b) ≡ events_from b k (event_count b - k)
  list-less =
      let e : k + 0 ≡ k = omega arith in
      ap (events_from (less_first k b) 0) count_less ∙ events-less 0 (event_count b - k) ∙ ap (λ i. events_from b i (event_count b - k)) e

  -- records of other steps are passed over
  skip : (c i j m : ℕ) (s : State) → ((x : ℕ) → i ≤ x → x < i + j → (event_at b x).step ≢ c)
      → deliver_at c (events_from b i (j + m)) s ≡ deliver_at c (events_from b (i + j) m) s
  unfolding events_from deliver_at
  skip c i zero m s h =
      let e : 0 + m ≡ m = omega arith in
      let f : i ≡ i + 0 = omega arith in
      λ t. deliver_at c (events_from b (f t) (e t)) s
  skip c i (suc j) m s h =
      let e : suc j + m ≡ suc (j + m) = omega arith in
      let f : suc i + j ≡ i + suc j = omega arith in
      ap (λ n. deliver_at c (events_from b i n) s) e
      ∙ ap (λ (x : Bool). deliver_at c (events_from b (suc i) (j + m)) (cond x (event_on (event_at b i) s) s))
      (not-eq (h i (omega arith) (omega arith)))
      ∙ skip c (suc i) j m s (λ x l u. h x (omega (arith, l)) (omega (arith, u)))
      ∙ ap (λ n. deliver_at c (events_from b n m) s) f

  pub deliver-less : (c : ℕ) (s : State) → k ≤ event_count b → ((i : ℕ) → i < k → (event_at b i).step ≢ c)
      → deliver_at c (events_of (less_first k b)) s ≡ deliver_at c (events_of b) s
  deliver-less c s h early =
      let e : event_count b ≡ k + (event_count b - k) = omega (arith, h) in
      ap (λ l. deliver_at c l s) list-less
      ∙ sym (ap (λ n. deliver_at c (events_from b 0 n) s) e
      ∙ skip c 0 k (event_count b - k) s (λ x l u. early x (omega (arith, u)))
      ∙ ap (λ i. deliver_at c (events_from b i (event_count b - k)) s) (let z : 0 + k ≡ k = omega arith in z))
