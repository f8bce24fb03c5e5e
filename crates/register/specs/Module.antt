-- The abstract register: modules in load order, the CRS, missing names.
use Rattle.std.specs.Ordering.{is_lt}
use Rattle.std.specs.Prelude.{if◌then◌else◌, ℕ, ◌+◌, Bool, true, ◌&&◌, List, [], ◌∷◌, length, nat_le, Option, Some, None}
use Rattle.window.specs.Name.{is_name, order_of}
use Rattle.register.specs.Words.{same}

pub record Export : Type 0 where
  pub name : List ℕ
  pub address : ℕ

pub record Module : Type 0 where
  pub base : ℕ
  pub size : ℕ
  pub auto : Bool
  pub name : List ℕ
  pub segments : List ℕ
  pub named : List Export
  pub indexed : List ℕ

pub record Register : Type 0 where
  pub modules : List Module
  pub crs : Option ℕ
  pub missing : List (List ℕ)

-- "Names, each of at most 512 bytes without a zero": of the exports
unfoldable pub named_ok : List Export → Bool
named_ok [] = true
named_ok (x ∷ xs) = is_name x.name && named_ok xs

-- which of the exports has the name, the first being number i
unfoldable pub find_from : ℕ → List Export → List ℕ → Option ℕ
find_from i [] name = None
find_from i (x ∷ xs) name = if same name x.name then Some i else find_from (i + 1) xs name

unfoldable pub find_export : List Export → List ℕ → Option ℕ
find_export xs name = find_from 0 xs name

-- "Named exports of one module are distinct"; request 5: they "stand in ascending byte order of the name, a shorter name before its extensions"
unfoldable pub ascending : List Export → Bool
ascending [] = true
ascending (x ∷ []) = true
ascending (x ∷ y ∷ xs) = is_lt (order_of x.name y.name) && ascending (y ∷ xs)

-- "segments (at most 16, all a tag can reach)"
unfoldable pub proper_module : Module → Bool
proper_module m = is_name m.name && (nat_le (length m.segments) 16 && (named_ok m.named && ascending m.named))

unfoldable pub proper_modules : List Module → Bool
proper_modules [] = true
proper_modules (m ∷ ms) = proper_module m && proper_modules ms

unfoldable pub proper_names : List (List ℕ) → Bool
proper_names [] = true
proper_names (n ∷ ns) = is_name n && proper_names ns

-- "at most 64 records", and at most 64 missing names
unfoldable pub proper : Register → Bool
proper r =
    nat_le (length r.modules) 64
    && (proper_modules r.modules && (nat_le (length r.missing) 64 && proper_names r.missing))
