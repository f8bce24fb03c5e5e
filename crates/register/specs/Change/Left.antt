-- What a removal leaves is a register again.
use Rattle.std.specs.Prelude.{◌≡◌, ℕ, zero, suc, ◌+◌, ◌*◌, ◌^◌, ◌<◌, ◌≤◌, true, List, [], ◌∷◌, ◌++◌, length}
use Rattle.std.proofs.Common.{sym, ap, ◌∙◌, subst, length-append}
use native.Mathlib.Omega.{arith}
use Rattle.window.specs.Tests.{both, also}
use Rattle.register.specs.Module.{Export, Module, Register, proper_module, proper_modules, proper}
use Rattle.register.specs.Proper.{proper-parts, parts-proper}
use Rattle.register.specs.Encode.{export_words, module_names, module_words, record_words, record_names, encode_words, slots}
use Rattle.register.specs.Decode.{encodes, register_of, is_register}
use Rattle.register.specs.Slots.{length-slots}
use Rattle.register.specs.CheckIs.{read_back_lem, register-parts, is_register_lem}
use Rattle.register.specs.Change.{without, removed}
use Rattle.register.specs.Buffers.{Below, padded, names_are, encode_missing, encode_encodes}
use Rattle.register.specs.Append.Laid.{below_append}
use Rattle.register.specs.Append.Stands.{encoded_small}
use Rattle.register.specs.Change.Lower.{below_left, below_right, length-records}
use Rattle.register.specs.Change.Encoded.{whole-fits}
use Rattle.register.specs.Change.Remove.{RecordOfRegister, remaining}

-- words stay small when name offsets fall

below_exports : {b : ℕ} (p q : ℕ) (xs : List Export) → q ≤ p → Below b (export_words p xs) → Below b (export_words q xs)
unfolding export_words
below_exports p q [] h s i = s i
below_exports p q (x ∷ xs) h s zero = let a = s 0 in omega arith
below_exports p q (x ∷ xs) h s (suc zero) = s 1
below_exports p q (x ∷ xs) h s (suc (suc zero)) = s 2
below_exports p q (x ∷ xs) h s (suc (suc (suc i))) =
    below_exports (p + length x.name) (q + length x.name) xs (omega arith) (λ k. s (suc (suc (suc k)))) i

module _ {b : ℕ} (l : 0 < b) where
  below_module : (p q : ℕ) (m : Module) → q ≤ p → Below b (module_words p m) → Below b (module_words q m)
  unfolding module_words
  below_module p q m h s zero = s 0
  below_module p q m h s (suc zero) = s 1
  below_module p q m h s (suc (suc zero)) = s 2
  below_module p q m h s (suc (suc (suc zero))) = let a = s 3 in omega arith
  below_module p q m h s (suc (suc (suc (suc zero)))) = s 4
  below_module p q m h s (suc (suc (suc (suc (suc zero))))) = s 5
  below_module p q m h s (suc (suc (suc (suc (suc (suc zero)))))) = s 6
  below_module p q m h s (suc (suc (suc (suc (suc (suc (suc zero))))))) = s 7
  below_module p q m h s (suc (suc (suc (suc (suc (suc (suc (suc i)))))))) =
      let ex = export_words (p + length m.name) m.named in
      let t : Below b (m.segments ++ (ex ++ m.indexed)) = λ k. s (suc (suc (suc (suc (suc (suc (suc (suc k)))))))) in
      let u = below_right m.segments (ex ++ m.indexed) t in
      let v = below_exports (p + length m.name) (q + length m.name) m.named (omega arith) (below_left ex m.indexed l u) in
      below_append m.segments (export_words (q + length m.name) m.named ++ m.indexed) b (below_left m.segments (ex ++ m.indexed) l t)
      (below_append (export_words (q + length m.name) m.named) m.indexed b v (below_right ex m.indexed u))
      i

  below_records : (p q : ℕ) (ms : List Module) → q ≤ p → Below b (record_words p ms) → Below b (record_words q ms)
  unfolding record_words
  below_records p q [] h s = s
  below_records p q (m ∷ ms) h s =
      let g = length (module_names m) in
      below_append (module_words q m) (record_words (q + g) ms) b
      (below_module p q m h (below_left (module_words p m) (record_words (p + g) ms) l s))
      (below_records (p + g) (q + g) ms (omega arith) (below_right (module_words p m) (record_words (p + g) ms) s))

  below_without : (q : ℕ) (ms : List Module) (k : ℕ) → Below b (record_words q ms) → Below b (record_words q (without ms k))
  unfolding record_words without
  below_without q [] k s = s
  below_without q (m ∷ ms) zero s =
      below_records (q + length (module_names m)) q ms (omega arith) (below_right (module_words q m) (record_words (q + length (module_names m)) ms) s)
  below_without q (m ∷ ms) (suc k) s =
      let q' = q + length (module_names m) in
      below_append (module_words q m) (record_words q' (without ms k)) b (below_left (module_words q m) (record_words q' ms) l s)
      (below_without q' ms k (below_right (module_words q m) (record_words q' ms) s))

-- nothing grows, and what is left is proper
pub record Less (q : ℕ) (ms : List Module) (k : ℕ) : Type 0 where
  pub modules : length (without ms k) ≤ length ms
  pub words : length (record_words q (without ms k)) ≤ length (record_words q ms)
  pub names : length (record_names (without ms k)) ≤ length (record_names ms)

pub less : (q : ℕ) (ms : List Module) (k : ℕ) → Less q ms k
unfolding without record_words record_names
less q [] k = record { modules = omega arith; words = omega arith; names = omega arith }
less q (m ∷ ms) zero =
    let q' = q + length (module_names m) in
    let a = length-append (module_words q m) (record_words q' ms) in
    let b = length-append (module_names m) (record_names ms) in
    let c = length-records q q' ms in
    record { modules = omega arith; words = omega arith; names = omega arith }
less q (m ∷ ms) (suc k) =
    let q' = q + length (module_names m) in
    let i = less q' ms k in
    let a = length-append (module_words q m) (record_words q' ms) in
    let b = length-append (module_names m) (record_names ms) in
    let c = length-append (module_words q m) (record_words q' (without ms k)) in
    let d = length-append (module_names m) (record_names (without ms k)) in
    record { modules = omega (arith, i.modules); words = omega (arith, i.words); names = omega (arith, i.names) }

proper-without : (ms : List Module) (k : ℕ) → proper_modules ms ≡ true → proper_modules (without ms k) ≡ true
unfolding proper_modules without
proper-without [] k p = p
proper-without (m ∷ ms) zero p = (both (proper_module m) (proper_modules ms) p).1
proper-without (m ∷ ms) (suc k) p =
    let a = both (proper_module m) (proper_modules ms) p in
    also a.0 (proper-without ms k a.1)

module _ (r : Register) (k : ℕ) where
  removed-proper : proper r ≡ true → proper (removed r k) ≡ true
  unfolding removed
  removed-proper p =
      let a = proper-parts r p in
      let l = less 0 r.modules k in
      parts-proper (removed r k)
      record { count = omega (arith, a.count, l.modules); modules = proper-without r.modules k a.modules; few = a.few; kept = a.kept }

  removed_long : length (encode_words (removed r k)) ≤ length (encode_words r)
  unfolding removed encode_words
  removed_long = omega (arith, (less 0 r.modules k).words)

  removed-small : Below (2 ^ 32) (encode_words r) → Below (2 ^ 32) (encode_words (removed r k))
  unfolding removed encode_words
  removed-small s zero = let a = s 0 in omega (arith, (less 0 r.modules k).modules)
  removed-small s (suc zero) = s 1
  removed-small s (suc (suc zero)) = s 2
  removed-small s (suc (suc (suc zero))) = let a = s 3 in omega (arith, (less 0 r.modules k).words)
  removed-small s (suc (suc (suc (suc zero)))) = let a = s 4 in omega (arith, (less 0 r.modules k).names)
  removed-small s (suc (suc (suc (suc (suc zero))))) = s 5
  removed-small s (suc (suc (suc (suc (suc (suc zero)))))) = s 6
  removed-small s (suc (suc (suc (suc (suc (suc (suc zero))))))) = s 7
  removed-small s (suc (suc (suc (suc (suc (suc (suc (suc i)))))))) =
      below_without (omega arith) 0 r.modules k (λ j. s (suc (suc (suc (suc (suc (suc (suc (suc j))))))))) i

-- a removal leaves the encoding of the register without the record
pub remove_encodes
    : {records names : List ℕ} {place : ℕ} → Below 256 records → (s : RecordOfRegister records names place)
    → encodes (remaining s).0 (remaining s).1 s.missing (removed (register_of records names s.missing) s.number) ≡ true
unfolding remaining encode_missing removed
remove_encodes {records} {names} b s =
    let r = register_of records names s.missing in
    let p = register-parts records names s.missing s.holds in
    let a = proper-parts r p.0 in
    let m = names_are records names s.missing r p.1 in
    let e : s.missing ≡ padded 32896 (slots r.missing) = m.1 ∙ ap (λ n. padded n (slots r.missing)) m.2 in
    let l : length (slots r.missing) ≡ 514 * length r.missing = length-slots r.missing a.kept in
    let f = whole-fits records names s.missing r p.0 p.1 in
    let h =
    encode_encodes (length records) (length names) (removed r s.number) (omega (arith, removed_long r s.number))
    (removed-small r s.number (encoded_small records names s.missing r b p.1))
    (omega (arith, a.few)) in
    subst (λ t. encodes (remaining s).0 (remaining s).1 t (removed r s.number) ≡ true) (sym e) h

pub remove_kept
    : {records names : List ℕ} {place : ℕ} → Below 256 records → (s : RecordOfRegister records names place)
    → (is_register (remaining s).0 (remaining s).1 s.missing ≡ true)
    × (register_of (remaining s).0 (remaining s).1 s.missing ≡ removed (register_of records names s.missing) s.number)
remove_kept {records} {names} b s =
    let r = register_of records names s.missing in
    let q = removed-proper r s.number (register-parts records names s.missing s.holds).0 in
    let e = remove_encodes b s in (
      is_register_lem (remaining s).0 (remaining s).1 s.missing (removed r s.number) q e,
      read_back_lem (remaining s).0 (remaining s).1 s.missing (removed r s.number) q e,
    )
