-- Zeroed buffers are a register without modules, so a session starts with one.
use Rattle.std.specs.Prelude.{ℕ, ◌≡◌, refl, true, List, ◌∷◌, length, replicate}
use Rattle.std.proofs.lemmas.List.{length-replicate}
use Rattle.register.specs.Words.{part, same, all_zero, holds, words_in}
use Rattle.register.specs.Module.{proper, proper_modules, proper_names}
use Rattle.register.specs.Encode.{encode_words, record_words, record_names, slots, crs_known, crs_base}
use Rattle.register.specs.Decode.{settled, body, read_modules, read_crs, read_slots, read_register, register_of, encodes, is_register}
use Rattle.register.specs.Slots.{zeros}

-- a header of 32 zeros, and zeros after it
abbrev header : List ℕ → List ℕ
header rest =
    0 ∷ 0 ∷ 0 ∷ 0 ∷ 0 ∷ 0 ∷ 0 ∷ 0
    ∷ 0 ∷ 0 ∷ 0 ∷ 0 ∷ 0 ∷ 0 ∷ 0 ∷ 0
    ∷ 0 ∷ 0 ∷ 0 ∷ 0 ∷ 0 ∷ 0 ∷ 0 ∷ 0
    ∷ 0 ∷ 0 ∷ 0 ∷ 0 ∷ 0 ∷ 0 ∷ 0 ∷ 0
    ∷ rest

header_only
    : (rest names missing : List ℕ) → all_zero rest ≡ true → all_zero names ≡ true → all_zero missing ≡ true → length missing ≡ 32896
    → is_register (header rest) names missing ≡ true
unfolding is_register register_of read_register settled body read_modules read_crs read_slots encodes encode_words record_words
    record_names slots crs_known crs_base words_in part same holds proper proper_modules proper_names
header_only rest names missing a b c l = rw (a, b, c, l) refl

pub zeroed : is_register (replicate 16384 0) (replicate 16384 0) (replicate 32896 0) ≡ true
zeroed =
    header_only (replicate 16352 0) (replicate 16384 0) (replicate 32896 0) (zeros 16352) (zeros 16384) (zeros 32896)
    (length-replicate {A = ℕ} 32896 0)
