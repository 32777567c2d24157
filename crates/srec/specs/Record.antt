-- A line as a record, and why it is refused (document 02, §2):
--
--     S  type  count  address  data ..  checksum        type one digit, the others bytes of two digits each
--
-- Count is the number of bytes after it: two of address, the data, one of checksum.
-- Assumes nothing.
use Rattle.std.specs.Prelude.{ℕ, ◌+◌, ◌-◌, ◌*◌, ◌%◌, ◌≤◌, ◌≡◌, ⊤, Bool, true, false, cond, ◌&&◌, Result, Ok, Err}
use Rattle.std.specs.Prelude.{List, eqb, ltb, leb, length, get_or, take, drop}
use Rattle.srec.specs.declared.Refusal.{Refusal}
use Rattle.srec.specs.declared.Refusal.TheVariants.{MemoryLength, Form, Checksum, Room}
use Rattle.srec.specs.Digits.{all_digits, pairs_of, sum_of}

-- the paper's number of a refusal. [02 §2; 01 Who can be turned back]
abbrev pub refusal_number : Refusal → ℕ
refusal_number MemoryLength = 1
refusal_number Form = 10
refusal_number Checksum = 11
refusal_number Room = 12

-- count, address, data and checksum of a line, byte by byte. [02 §2]
unfoldable pub bytes_of : List ℕ → List ℕ
bytes_of l = pairs_of (drop 2 l)

-- the type: 48, 49 or 57 for `0`, `1` or `9`. [02 §2]
abbrev pub kind_of : List ℕ → ℕ
kind_of l = get_or l 1 0

-- the number of bytes after the count. [02 §2]
abbrev pub count_of : List ℕ → ℕ
count_of l = get_or (bytes_of l) 0 0

-- "a 16-bit address", its high byte first. [02 §2]
abbrev pub address_of : List ℕ → ℕ
address_of l = 256 * get_or (bytes_of l) 1 0 + get_or (bytes_of l) 2 0

-- what stands between address and checksum. [02 §2]
abbrev pub data_of : List ℕ → List ℕ
data_of l = take (count_of l - 3) (drop 3 (bytes_of l))

-- the types "S0, S1 or S9". [02 §2]
abbrev pub known : ℕ → Bool
known k = cond (eqb k 48) true (cond (eqb k 49) true (eqb k 57))

-- 10 where this fails: "a line is no S0, S1 or S9 of hexadecimal digits, has the wrong count, or S9 is not last"; S9
-- "has no data". A count below 3 has no room for address and checksum. [02 §2]
unfoldable pub shaped_of : Bool → List ℕ → Bool
shaped_of last l =
    leb 4 (length l)
    && (eqb (get_or l 0 0) 83
    && (known (kind_of l)
    && (all_digits (drop 2 l)
    && (eqb (length l) (4 + 2 * count_of l)
    && (leb 3 (count_of l)
    && cond (eqb (kind_of l) 57) (eqb (count_of l) 3 && last) true)))))

-- "11 when its checksum differs": count, address, data and checksum make #FF modulo 256. [02 §2]
abbrev pub summed_of : List ℕ → Bool
summed_of l = eqb (sum_of (bytes_of l) % 256) 255

-- "12 when an S1's data .. passes #FFFF". [02 §2]
abbrev pub passes_of : List ℕ → Bool
passes_of l = eqb (kind_of l) 49 && ltb 65536 (address_of l + (count_of l - 3))

-- a line's refusal: "each line is tried for 10, 11, 12 in turn". `last` says that no line follows. [02 §2]
unfoldable pub fault_of : Bool → List ℕ → Result ⊤ Refusal
fault_of last l =
    cond (shaped_of last l) (cond (summed_of l) (cond (passes_of l) (Err Room) (Ok tt)) (Err Checksum)) (Err Form)

-- a line that can be loaded: what loading asks of each line of an accepted text
pub record Loadable (l : List ℕ) : Type 0 where
  pub long : length l ≡ 4 + 2 * count_of l
  pub room : 3 ≤ count_of l
  pub inside : kind_of l ≡ 49 → address_of l + (count_of l - 3) ≤ 65536
