-- A record begun, by its first words and its name.
use Rattle.std.proofs.Common.{◌≡◌, ℕ, ◌+◌, ◌<◌, ◌≤◌, Bool, List, [], ◌∷◌, length, get_or, le-ltb, lt-ltb, le-leb, Option, Some, None}
use lib.Seq.{sets}
use borrow.Author.Tests.{lt-leb}
use Rattle.register.specs.Words.{flat, words_in}
use Rattle.register.specs.Encode.{flag}
use Rattle.register.specs.Append.Draft.{room_in, used_bytes, used_names, first_words, draft_at, begin_record}
use Rattle.register.specs.declared.append.draft.Draft.{Draft}

module _ (records names : List ℕ) (base size : ℕ) (auto : Bool) (name : List ℕ) where
  abbrev begun : Option Draft × List ℕ × List ℕ
  begun = begin_record records names base size auto name

  pub begin_many : {n : ℕ} → n ≡ get_or (words_in records) 0 0 → 64 ≤ n → ◌≡◌ {A = Option Draft × List ℕ × List ℕ} (None, records, names) begun
  unfolding begin_record
  begin_many e h = rw (← e, le-ltb _ 64 h)

  module _ {n u q fr : ℕ} (en : n ≡ get_or (words_in records) 0 0) (few : n < 64) (eu : u ≡ used_bytes records) (eq : q ≡ used_names records)
      (er : fr ≡ room_in (length records)) where
    pub begin_no_words : fr < u + 32 → ◌≡◌ {A = Option Draft × List ℕ × List ℕ} (None, records, names) begun
    unfolding begin_record
    begin_no_words h = rw (← en, lt-ltb n 64 few, ← eu, ← er, lt-leb (u + 32) fr h)

    module _ {fn : ℕ} (ef : fn ≡ room_in (length names)) (h : u + 32 ≤ fr) where
      pub begin_no_names : fn < q + length name → ◌≡◌ {A = Option Draft × List ℕ × List ℕ} (None, records, names) begun
      unfolding begin_record
      begin_no_names g = rw (← en, lt-ltb n 64 few, ← eu, ← er, le-leb (u + 32) fr h, ← eq, ← ef, lt-leb (q + length name) fn g)

      pub begin_open
          : {a : ℕ} {w ns : List ℕ} → q + length name ≤ fn → a ≡ flag auto
          → w ≡ sets records u (flat (base ∷ size ∷ a ∷ q ∷ length name ∷ 0 ∷ 0 ∷ 0 ∷ [])) → ns ≡ sets names q name
          → ◌≡◌ {A = Option Draft × List ℕ × List ℕ} (Some (draft_at u q (length name)), w, ns) begun
      unfolding begin_record first_words
      begin_open g ea ew es =
          rw (← en, lt-ltb n 64 few, ← eu, ← er, le-leb (u + 32) fr h, ← eq, ← ef, le-leb (q + length name) fn g, ew, es, ea)
