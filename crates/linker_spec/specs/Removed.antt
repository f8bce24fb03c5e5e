-- A module less: the register without it is one that its bytes encode, in buffers of the same lengths.
use Rattle.std.specs.Prelude.{ℕ, ◌+◌, ◌-◌, ◌*◌, ◌≤◌, ◌<◌, ◌≡◌, refl, List, true, take, replicate}
use Rattle.std.proofs.Math.Path.{ap, subst}
use Rattle.std.proofs.Common.{◌∙◌}
use native.Mathlib.Omega.{arith}
use Rattle.std.proofs.Math.ListN.{length, length-append}
use Rattle.register.specs.Module.{Register, proper}
use Rattle.register.specs.Encode.{record_words, record_names, encode_words, slots}
use Rattle.register.specs.Decode.{register_of, is_register}
use Rattle.register.specs.CheckIs.{register-parts}
use Rattle.register.specs.Change.{removed}
use Rattle.register.specs.Buffers.{Below, padded, names_are, encode_records, encode_names, encode_missing}
use Rattle.register.specs.Change.Encoded.{whole-fits}
use Rattle.register.specs.Change.Remove.{RecordOfRegister, remaining}
use Rattle.register.specs.Change.Left.{less, remove_kept}
use Rattle.linker_spec.specs.Room.{Encoding, Stored, sized}

module _ (records names missing : List ℕ) (v : is_register records names missing ≡ true) (t : Below 256 records) (k : ℕ) where
  abbrev r : Register
  r = register_of records names missing

  module _ (h : k < length r.modules) where
    abbrev leaving : RecordOfRegister records names (32 + 4 * length (record_words 0 (take k r.modules)))
    leaving = record { missing = missing; number = k; holds = v; below = h; there = refl }

    left-proper : proper (removed r k) ≡ true
    left-proper =
        let a = remove_kept t leaving in
        subst (λ x. proper x ≡ true) a.1 (register-parts _ _ _ a.0).0

    left_encoded : Encoding (length records) (length names) (removed r k)
    unfolding remaining removed encode_missing
    left_encoded =
        let m = names_are records names missing r (register-parts records names missing v).1 in
        let a : missing ≡ padded 32896 (slots r.missing) = m.1 ∙ ap (λ n. padded n (slots r.missing)) m.2 in
        subst (λ x. is_register (encode_records (length records) (removed r k)) (encode_names (length names) (removed r k)) x ≡ true) a
        (remove_kept t leaving).0

    names-inside : length (record_names r.modules) ≤ length names
    unfolding padded
    names-inside =
        let n = record_names r.modules in
        let e = ap length (names_are records names missing r (register-parts records names missing v).1).0 in
        let l = length-append n (replicate (length names - length n) 0) in
        omega arith

    pub removed-stored : Stored (length records) (length names) (removed r k)
    unfolding removed encode_words
    removed-stored =
        let p = register-parts records names missing v in
        let f = whole-fits records names missing r p.0 p.1 in
        let o = less 0 r.modules k in (
          left_encoded,
          sized (length records) (length names) (removed r k) left-proper (omega (arith, o.words)) (omega (arith, o.names, names-inside)),
        )
