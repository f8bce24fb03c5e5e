-- From the code's tests to the definitions of `Bytes`.
use Rattle.std.proofs.Common.{◌≡◌, ℕ, ◌+◌, ◌*◌, ◌<◌, ◌≤◌, Bool, true, false, ◌&&◌, eqb, leb, List, length, sym, ◌∙◌, le-ltb, lt-ltb, eqb-true, leb-true}
use Rattle.window.specs.Word.{word_in, set_word_in}
use Rattle.window.specs.Tests.{both}
use Rattle.register.specs.Change.Bytes.{takes_name, put_slot, push_missing}

-- a missing name

pub takes_lengths : (r m n : ℕ) {t : Bool} → t ≡ takes_name r m n → t ≡ true → (32 ≤ r) × (m ≡ 32896) × (n ≤ 512)
unfolding takes_name
takes_lengths r m n e z =
    let a = both (leb 32 r) (eqb m 32896 && leb n 512) (sym e ∙ z) in
    let b = both (eqb m 32896) (leb n 512) a.1 in
    (leb-true 32 r a.0, eqb-true m 32896 b.0, leb-true n 512 b.1)

module _ (records missing name : List ℕ) {t : Bool} (e : t ≡ takes_name (length records) (length missing) (length name)) where
  pub push_shut : t ≡ false → ◌≡◌ {A = List ℕ × List ℕ} (records, missing) (push_missing records missing name)
  unfolding push_missing
  push_shut z = rw (← e, z)

  module _ (y : t ≡ true) {n : ℕ} (en : n ≡ word_in records 20) where
    pub push_many : 64 ≤ n → ◌≡◌ {A = List ℕ × List ℕ} (records, missing) (push_missing records missing name)
    unfolding push_missing
    push_many h = rw (← e, y, ← en, le-ltb n 64 h)

    pub push_one
        : {rs ms : List ℕ} → n < 64 → ms ≡ put_slot missing (514 * n) name → rs ≡ set_word_in records 20 (n + 1)
        → ◌≡◌ {A = List ℕ × List ℕ} (rs, ms) (push_missing records missing name)
    unfolding push_missing
    push_one h em er = rw (← e, y, ← en, lt-ltb n 64 h, em, er)
