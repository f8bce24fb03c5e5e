-- A window with a page of zeros in front of it: a call that writes nothing in that page gives the same.
use Rattle.std.specs.Prelude.{if◌then◌else◌, ℕ, zero, suc, ◌+◌, ◌-◌, ◌/◌, ◌%◌, ◌^◌, ◌<◌, ◌≡◌, refl, List, [], ◌∷◌, ◌++◌, Bool, true, false, ◌&&◌, length, set, ltb, Option, Some, None}
use Rattle.std.proofs.Common.{sym, ap, ◌∙◌, arith, suc-add, zero-add, length-append, get_or-append-add, ltb-true, lt-ltb}
use Rattle.std.proofs.Math.Decide.{dec_lt}
use Rattle.std.proofs.lemmas.List.{get_or-replicate}
use Rattle.std.proofs.Math.ListN.{get_or-append, get_or-eq_default}
use Rattle.window.specs.Memory.{good_window, place, inside, byte_at, word_at, put_byte, put_bytes, put_word, put_upward, put_privileged}
use Rattle.window.specs.Access.{Prog, ret, read8, read32, write8, write32, write_privileged, run}
use Rattle.window.specs.Bytes.{length-put_byte, length-put_word, length-put_privileged}
use Rattle.window.specs.Tests.{both}
use Rattle.register.specs.Module.{Register}
use Rattle.register.specs.Decode.{is_register}
use Rattle.register.specs.Buffers.{encode_records, encode_names, encode_missing}
use Rattle.linker_spec.specs.declared.call.Call.{Call}
use Rattle.linker_spec.specs.Calls as calls
use Rattle.linker_spec.specs.Calls.{Done}
use Rattle.linker_spec.specs.Outcome.{Buffers, register_after, outcome_of, call_outcome}
use Rattle.linker_spec.specs.Refusals.{lent_register}
use Rattle.history.specs.Sessions.{given}
use Rattle.history.specs.Windows.{program, given-program}
use Rattle.history_witness.specs.Image.{zeros}

abbrev pub at : ℕ
at = 0x100000

abbrev pub bt : ℕ
bt = 0x0ff000

unfoldable pub page_before : List ℕ → List ℕ
page_before w = zeros 4096 ++ w

set-add : (l m : List ℕ) (i v : ℕ) → set (l ++ m) (length l + i) v ≡ l ++ set m i v
set-add [] m i v = rw (zero-add i) refl
set-add (x ∷ l) m i v = rw (suc-add (length l) i) (ap (λ r. x ∷ r) (set-add l m i v))

-- a byte is the same, whatever its address
byte_page_before : (w : List ℕ) (x : ℕ) → length w ≡ 4096 → byte_at bt (page_before w) x ≡ byte_at at w x
unfolding byte_at place page_before
byte_page_before w x e = go (dec_lt (place at x) (2 ^ 32 - 4096))
  where
    go : Dec (place at x < 2 ^ 32 - 4096) → byte_at bt (page_before w) x ≡ byte_at at w x
    go (yes l) =
        let p : place bt x ≡ 4096 + place at x = omega arith in
        rw p (get_or-append-add (zeros 4096) w (place at x) 0)
    go (no l) =
        let p : place bt x < 4096 = omega arith in
        get_or-append (zeros 4096) w 0 (place bt x) p
        ∙ get_or-replicate 4096 (place bt x) 0 0 p
        ∙ sym (get_or-eq_default w 0 (omega arith))

word-page_before : (w : List ℕ) (x : ℕ) → length w ≡ 4096 → word_at bt (page_before w) x ≡ word_at at w x
unfolding word_at
word-page_before w x e = rw (byte_page_before w x e, byte_page_before w (x + 1) e, byte_page_before w (x + 2) e, byte_page_before w (x + 3) e) refl

-- the n bytes from x on lie in the page
unfoldable pub lies : ℕ → ℕ → Bool
lies zero x = true
lies (suc n) x = ltb (place at x) 4096 && lies n (x + 1)

put-page_before : (w : List ℕ) (x v : ℕ) → ltb (place at x) 4096 ≡ true → put_byte bt (page_before w) x v ≡ page_before (put_byte at w x v)
unfolding put_byte place page_before
put-page_before w x v h =
    let l = ltb-true (place at x) 4096 h in
    let p : place bt x ≡ 4096 + place at x = omega arith in
    rw p (set-add (zeros 4096) w (place at x) (v % 256))

bytes-page_before : (n : ℕ) (w : List ℕ) (x v : ℕ) → lies n x ≡ true → put_bytes n bt (page_before w) x v ≡ page_before (put_bytes n at w x v)
unfolding put_bytes lies
bytes-page_before zero w x v h = refl
bytes-page_before (suc n) w x v h =
    let b = both (ltb (place at x) 4096) (lies n (x + 1)) h in
    rw (put-page_before w x v b.0) (bytes-page_before n (put_byte at w x v) (x + 1) (v / 256) b.1)

inside-at : (w : List ℕ) (x : ℕ) → length w ≡ 4096 → ltb (place at x) 4096 ≡ true → inside at w x ≡ true
unfolding inside
inside-at w x e h = rw e h

inside-bt : (w : List ℕ) (x : ℕ) → length w ≡ 4096 → ltb (place at x) 4096 ≡ true → inside bt (page_before w) x ≡ true
unfolding inside place page_before
inside-bt w x e h =
    let l = ltb-true (place at x) 4096 h in
    let n : length (page_before w) ≡ 8192 = length-append (zeros 4096) w ∙ rw e refl in
    rw n (lt-ltb (place bt x) 8192 (omega arith))

upward_page_before
    : (n : ℕ) (w : List ℕ) (x v : ℕ) → length w ≡ 4096 → lies n x ≡ true → put_upward n bt (page_before w) x v ≡ page_before (put_upward n at w x v)
unfolding put_upward lies
upward_page_before zero w x v e h = refl
upward_page_before (suc n) w x v e h =
    let b = both (ltb (place at x) 4096) (lies n (x + 1)) h in
    rw (inside-bt w x e b.0, inside-at w x e b.0, put-page_before w x v b.0)
    (upward_page_before n (put_byte at w x v) (x + 1) (v / 256) (length-put_byte at w x v ∙ e) b.1)

-- a run in the page, if every write lies in it
unfoldable pub tried : {A : Type 0} → Prog A → List ℕ → Option (A × List ℕ)
tried (ret a) w = Some (a, w)
tried (read8 p k) w = tried (k (byte_at at w p)) w
tried (read32 p k) w = tried (k (word_at at w p)) w
tried (write8 p v k) w = let r = tried k (put_byte at w p v) in if ltb (place at p) 4096 then r else None
tried (write32 p v k) w = let r = tried k (put_word at w p v) in if lies 4 p then r else None
tried (write_privileged p v k) w = let r = tried k (put_privileged at w p v) in if lies 4 p then r else None

chosen : {B : Type 0} {r : B} (b : Bool) (o : Option B) → (if b then o else None) ≡ Some r → (b ≡ true) × (o ≡ Some r)
chosen true o h = (refl, h)
chosen false o h = let z : ◌≡◌ {A = ℕ} 0 1 = cc in absurd (omega arith)

run-page_before
    : {A : Type 0} (m : Prog A) (w : List ℕ) {r : A × List ℕ} → length w ≡ 4096 → tried m w ≡ Some r → run bt m (page_before w) ≡ (r.0, page_before r.1)
unfolding run tried put_word put_privileged
run-page_before (ret a) w {r} e h = let y : (a, w) ≡ r = cc in rw (← y) refl
run-page_before (read8 p k) w e h = rw (byte_page_before w p e) (run-page_before (k (byte_at at w p)) w e h)
run-page_before (read32 p k) w e h = rw (word-page_before w p e) (run-page_before (k (word_at at w p)) w e h)
run-page_before (write8 p v k) w e h =
    let b = chosen (ltb (place at p) 4096) (tried k (put_byte at w p v)) h in
    rw (put-page_before w p v b.0) (run-page_before k (put_byte at w p v) (length-put_byte at w p v ∙ e) b.1)
run-page_before (write32 p v k) w e h =
    let b = chosen (lies 4 p) (tried k (put_word at w p v)) h in
    rw (bytes-page_before 4 w p v b.0) (run-page_before k (put_word at w p v) (length-put_word at w p v ∙ e) b.1)
run-page_before (write_privileged p v k) w e h =
    let b = chosen (lies 4 p) (tried k (put_privileged at w p v)) h in
    rw (upward_page_before 4 w p v e b.0) (run-page_before k (put_privileged at w p v) (length-put_privileged at w p v ∙ e) b.1)

abbrev pub lent_page_before : Buffers → Buffers
lent_page_before b = record { window = page_before b.window; records = b.records; names = b.names; missing = b.missing }

good_bt : (w : List ℕ) → length w ≡ 4096 → good_window bt (page_before w) ≡ true
unfolding good_window page_before
good_bt w e = let n : length (page_before w) ≡ 8192 = length-append (zeros 4096) w ∙ rw e refl in rw n refl

-- a call in the page alone: so many bytes of records and names, and what it comes to
pub record Tried (c : Call) (b : Buffers) (records names v : ℕ) (r : Register) (w : List ℕ) : Type 0 where
  pub whole : length b.window ≡ 4096
  pub records_are : length b.records ≡ records
  pub names_are : length b.names ≡ names
  pub valid : is_register b.records b.names b.missing ≡ true
  pub leads : tried (program c records names (lent_register b)) b.window ≡ Some (Done v r, w)

-- a window, and the encoding of a register in so many bytes of records and names
abbrev pub stored : ℕ → ℕ → Register → List ℕ → Buffers
stored records names r w =
    record { window = w; records = encode_records records r; names = encode_names names r; missing = encode_missing r }

pub given-page_before
    : (c : Call) (b : Buffers) {records names v : ℕ} {r : Register} {w : List ℕ} → Tried c b records names v r w
    → given c bt (lent_page_before b) ≡ record { number = 0; value = v; left = stored records names r (page_before w) }
unfolding call_outcome outcome_of register_after calls.number calls.value
given-page_before c b {records} {names} {v} {r} {w} h =
    let e = run-page_before (program c records names (lent_register b)) b.window h.whole h.leads in
    given-program c bt (lent_page_before b)
    ∙ rw (
      good_bt b.window h.whole,
      h.valid,
      h.records_are,
      h.names_are,
      e,
      register_after,
      h.records_are,
      h.names_are,
    ) (ap (λ t. record { number = 0; value = v; left = stored records names r t.1 }) e)
