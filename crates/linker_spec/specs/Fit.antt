-- Number 5's rule: when a record fits, and what counts.
use Rattle.std.specs.declared.cmp.Ordering.{Ordering}
use Rattle.std.specs.declared.cmp.Ordering.TheVariants.{Less, Equal, Greater}
use Prim.Native.Nat.{ℕ, zero, suc, ◌+◌, ◌*◌, ◌≤◌}
use Rattle.std.specs.Prelude.{◌≡◌, List, [], ◌∷◌, true, false, ◌&&◌, ltb}
use Rattle.std.proofs.Math.Path.{refl, sym, ap}
use Rattle.std.proofs.Common.{◌∙◌}
use Rattle.std.proofs.Math.Bool.{and-false}
use native.Mathlib.Omega.{arith}
use Rattle.std.proofs.Math.ListN.{length, length-append}
use Rattle.std.proofs.Math.Dec.{eqb, leb}
use borrow.Author.Tests.{lt-ltb, le-leb, lt-leb, ne_eqb}
use Rattle.window.specs.Name.{order_of}
use Rattle.window.specs.Tests.{also}
use Rattle.register.specs.Module.{Export, Module, Register}
use Rattle.register.specs.Encode.{export_names, module_names, module_words, record_words, record_names, encode_words}
use Rattle.register.specs.Change.{appended, by_order, put_named}
use Rattle.register.specs.Append.Draft.{room_in, room-inside}
use Rattle.register.specs.Append.Held.{words_long}
use Rattle.register.specs.Append.Append.{names-with, words-with}
use Rattle.linker_spec.specs.Calls.{fits}
use Rattle.linker_spec.specs.Room.{Fits}

-- "64 modules stand, or the record or its names exceed the free bytes": otherwise it fits, so an exact fit passes
pub means_fits : (records names : ℕ) (r : Register) (m : Module) → Fits records names r m → fits records names r m ≡ true
unfolding fits
means_fits records names r m f =
    also (lt-ltb (length r.modules) 64 f.few)
    (also (le-leb (4 * length (encode_words (appended r m))) (room_in records) f.words)
    (le-leb (length (record_names (appended r m).modules)) (room_in names) f.bytes))

-- the sizes that count: those of the record as it will stand, after what stands
module _ (r : Register) (m : Module) where
  pub words_of
      : length (encode_words (appended r m))
      ≡ length (encode_words r) + (8 + (length m.segments + (3 * length m.named + length m.indexed)))
  unfolding encode_words appended
  words_of =
      let q = length (record_names r.modules) in
      let k = ap length (words-with r.modules m) in
      let l = length-append (record_words 0 r.modules) (module_words q m) in
      omega (arith, words_long q m)

  pub names_of : length (record_names (appended r m).modules) ≡ length (record_names r.modules) + length (module_names m)
  unfolding appended
  names_of = names-with r.modules m

  -- no record fits in 32 bytes
  pub none_in_32 : (names : ℕ) → fits 32 names r m ≡ false
  unfolding fits encode_words
  none_in_32 names =
      rw (
        lt-leb (4 * length (encode_words (appended r m))) (room_in 32)
            (let h : 8 ≤ length (encode_words r) = omega arith in omega (arith, words_of, room-inside 32)),
        and-false,
      )

  -- in no name bytes, only a module without them; none stand before it then
  pub in_no_names
      : (records : ℕ) → length (record_names r.modules) ≡ 0
      → fits records 0 r m
      ≡ (ltb (length r.modules) 64 && (leb (4 * length (encode_words (appended r m))) (room_in records) && eqb (length (module_names m)) 0))
  unfolding fits room_in
  in_no_names records e =
      let n : length (record_names (appended r m).modules) ≡ length (module_names m) = names_of ∙ omega arith in
      rw (n, none (length (module_names m)))
    where
      none : (k : ℕ) → leb k 0 ≡ eqb k 0
      none zero = refl
      none (suc k) = lt-leb (suc k) 0 (omega arith) ∙ sym (ne_eqb (suc k) 0 (λ z. omega arith))

-- while exports are read the record only grows: a draft that is full stays full
pub put_grows
    : (xs : List Export) (name : List ℕ) (a : ℕ)
    → (length xs ≤ length (put_named xs name a)) × (length (export_names xs) ≤ length (export_names (put_named xs name a)))
unfolding put_named by_order export_names
put_grows [] name a = (omega arith, omega arith)
put_grows (x ∷ xs) name a = go (order_of name x.name) (put_grows xs name a)
  where
    put : Ordering → List Export
    put o = by_order o (record { name = name; address = a } ∷ x ∷ xs) (record { name = x.name; address = a } ∷ xs) (x ∷ put_named xs name a)

    go
        : (o : Ordering) → (length xs ≤ length (put_named xs name a)) × (length (export_names xs) ≤ length (export_names (put_named xs name a)))
        → (suc (length xs) ≤ length (put o)) × (length (export_names (x ∷ xs)) ≤ length (export_names (put o)))
    go Less h = let k = length-append name (export_names (x ∷ xs)) in (omega arith, omega arith)
    go Equal h = (omega arith, omega arith)
    go Greater h =
        let k = length-append x.name (export_names xs) in
        let l = length-append x.name (export_names (put_named xs name a)) in
        (omega (arith, h.0), omega (arith, h.1))
