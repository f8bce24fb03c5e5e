-- The pieces of each line, in the order in which they are put.
use Prim.Native.Nat.{ℕ, ◌+◌, ◌*◌, ◌%◌, ◌^◌, ◌<◌, ◌≤◌}
use mathlib.Core.Path.{◌≡◌, refl, sym, ap, ◌∙◌}
use mathlib.Core.Logic.{◌≢◌}
use mathlib.Core.Bool.{true, ◌&&◌}
use mathlib.Core.List.{List, [], ◌∷◌, ◌++◌}
use native.Mathlib.Omega.{arith}
use lib.ListN.{length, drop, get_or, length-take, length-drop, drop_of_length-le}
use lib.Seq.{drop-cons}
use native.Mathlib.Numerals.{add-one}
use lib.Dec.{leb}
use borrow.Author.Tests.{leb-true}
use Rattle.window.specs.Tests.{both}
use Rattle.window.specs.Name.{no_zero, is_name}
use Rattle.register.specs.Words.{part, words_in}
use Rattle.register.specs.Module.{Module, proper_module}
use Rattle.register.specs.Encode.{flag}
use Rattle.register.specs.Decode.{is_register, register_of, read_register, slot_name}
use Rattle.register.specs.declared.read.Record.{Record}
use Rattle.register.specs.Read.Read.{Encoded, modules_of, module_bytes, record_at, record_end, module_at, record_of}
use Rattle.register.specs.Read.Places.{RecordStands, RecordsStand, stands_end, stands_name}
use Rattle.register.specs.Read.Encoded.{modules_stand, module_count, missing_count, missing_name}
use Rattle.register.specs.Read.Walk.{WalkStep, turn, unwrapped}
use Rattle.text.specs.Text.{bytes, hex_of, decimal_of, pairs_of, put}
use Rattle.text.specs.Laws.{put-append, put_then}
use Rattle.text.specs.declared.Text.{Text}
use Rattle.text.specs.Puts.{Puts, puts_then, puts-then-two}
use Rattle.session.specs.RegisterLines.Lines.{name_text, module_line, module_lines, name_lines, missing_lines}

-- a name

pub name-empty : (name : List ℕ) {a b : Text} → length name ≡ 0 → Puts (decimal_of (length name)) a b → Puts (name_text name) a b
unfolding name_text
name-empty [] h e = e
name-empty (b ∷ s) h e = absurd (omega arith)

pub name-bytes
    : (name : List ℕ) {a b c d : Text} → length name ≢ 0 → Puts (decimal_of (length name)) a b → Puts (bytes " ") b c → Puts (pairs_of name) c d
    → Puts (name_text name) a d
unfolding name_text
name-bytes [] h e f g = absurd (h refl)
name-bytes (b ∷ s) h e f g = puts_then (puts_then e f) g

-- a module

module_pieces
    : (m : Module) {t₀ t₁ t₂ t₃ t₄ t₅ t₆ t₇ t₈ : Text}
    → Puts (bytes "module " ++ hex_of m.base) t₀ t₁
    → Puts (bytes " " ++ hex_of m.size) t₁ t₂
    → Puts (bytes " " ++ decimal_of (flag m.auto)) t₂ t₃
    → Puts (bytes " " ++ decimal_of (length m.named)) t₃ t₄
    → Puts (bytes " " ++ decimal_of (length m.indexed)) t₄ t₅
    → Puts (bytes " ") t₅ t₆
    → Puts (name_text m.name) t₆ t₇
    → Puts (bytes "\n") t₇ t₈
    → Puts (module_line m) t₀ t₈
unfolding module_line
module_pieces m e₁ e₂ e₃ e₄ e₅ e₆ e₇ e₈ =
    let f₃ = puts-then-two _ _ (puts-then-two _ _ e₁ e₂) e₃ in
    let f₅ = puts-then-two _ _ (puts-then-two _ _ f₃ e₄) e₅ in
    puts_then (puts_then (puts_then f₅ e₆) e₇) e₈

module _ (records names : List ℕ) (place : ℕ) (m : Module) (s : RecordStands records names place m) {r : Record} {name : List ℕ}
    (er : r ≡ record_at records place) (en : name ≡ part names r.name_offset r.name_length) where
  its_record : r ≡ record_of place s.offset m
  its_record = er ∙ s.words

  its_name : name ≡ m.name
  its_name = en ∙ rw er (stands_name s)

  pub name-fits : length name < 2 ^ 32
  unfolding proper_module is_name
  name-fits =
      let a = both (leb (length m.name) 512 && no_zero m.name) _ s.proper in
      let b = both (leb (length m.name) 512) (no_zero m.name) a.0 in
      rw its_name (omega (arith, leb-true (length m.name) 512 b.0))

  pub module_line_lem
      : {t₀ t₁ t₂ t₃ t₄ t₅ t₆ t₇ t₈ : Text}
      → Puts (bytes "module " ++ hex_of r.base) t₀ t₁
      → Puts (bytes " " ++ hex_of r.size) t₁ t₂
      → Puts (bytes " " ++ decimal_of r.auto_link) t₂ t₃
      → Puts (bytes " " ++ decimal_of r.named) t₃ t₄
      → Puts (bytes " " ++ decimal_of r.indexed) t₄ t₅
      → Puts (bytes " ") t₅ t₆
      → Puts (name_text name) t₆ t₇
      → Puts (bytes "\n") t₇ t₈
      → Puts (module_line (module_at records names place)) t₀ t₈
  module_line_lem e₁ e₂ e₃ e₄ e₅ e₆ e₇ e₈ =
      rw s.back
      (module_pieces m (rw its_record at e₁) (rw its_record at e₂) (rw its_record at e₃) (rw its_record at e₄)
      (rw its_record at e₅) e₆ (rw its_name at e₇) e₈)

-- the modules that are left: their records, and their lines

pub record ModulesLeft (records names : List ℕ) (o : ℕ × List ℕ) (place k : ℕ) (p : ℕ × List ℕ) : Type 0 where
  pub left : List Module
  pub standing : RecordsStand records names place left
  pub count : k + length left ≡ get_or (words_in records) 0 0
  pub same : put (module_lines left) p ≡ put (module_lines (modules_of records names)) o

module _ (records names : List ℕ) (o : ℕ × List ℕ) where
  pub left_starts : Encoded records names → ModulesLeft records names o 32 0 o
  left_starts e =
      record {
        left = modules_of records names;
        standing = modules_stand records names e.0 e.1;
        count = omega (arith, module_count records names e.0 e.1);
        same = refl;
      }

  module _ {place k : ℕ} {p : ℕ × List ℕ} (w : ModulesLeft records names o place k p) where
    pub left_ends : get_or (words_in records) 0 0 ≤ k → p ≡ put (module_lines (modules_of records names)) o
    unfolding module_lines put
    left_ends h = go w.left w.count w.same
      where
        go
            : (ms : List Module) → k + length ms ≡ get_or (words_in records) 0 0
            → put (module_lines ms) p ≡ put (module_lines (modules_of records names)) o
            → p ≡ put (module_lines (modules_of records names)) o
        go [] c s = s
        go (m ∷ ms) c s = absurd (omega arith)

    module _ (h : k < get_or (words_in records) 0 0) where
      first : WalkStep records names place k w.left
      first = turn records names place k w.left w.standing w.count h

      pub left_goes
          : {q : ℕ × List ℕ} {r : Record} {end : ℕ} → q ≡ put (module_line (module_at records names place)) p
          → r ≡ record_at records place → end ≡ record_end r % 2 ^ 64 → length records < 2 ^ 64
          → ModulesLeft records names o end (k + 1) q
      unfolding module_lines
      left_goes {q} {r} {end} e er ee l =
          let t = first in
          let x : record_end r ≡ place + module_bytes t.here = rw er (stands_end t.stands) in
          let y : end ≡ place + module_bytes t.here = unwrapped ee (omega (arith, t.stands.inside)) ∙ x in
          let z : put (module_lines t.rest) q ≡ put (module_lines (t.here ∷ t.rest)) p =
          ap (put (module_lines t.rest)) (e ∙ ap (λ m. put (module_line m) p) t.stands.back)
          ∙ sym (put-append (module_line t.here) (module_lines t.rest) p) in
          record {
            left = t.rest;
            standing = rw y t.standing;
            count = t.count;
            same = z ∙ ap (λ ms. put (module_lines ms) p) (sym t.split) ∙ w.same;
          }

-- the missing names, whatever the names of the modules

abbrev pub missing_in : List ℕ → List ℕ → List (List ℕ)
missing_in records missing = (register_of records [] missing).missing

pub any-names : (records names missing : List ℕ) → (register_of records names missing).missing ≡ missing_in records missing
unfolding register_of read_register
any-names records names missing = refl

pub slot-fits : (missing : List ℕ) (k : ℕ) {name : List ℕ} → name ≡ slot_name (part missing (514 * k) 514) → length name < 2 ^ 32
unfolding slot_name part
slot-fits missing k e = rw e (simp (length-take, length-drop) (omega arith))

module _ (records names missing : List ℕ) (h : is_register records names missing ≡ true) where
  abbrev ns : List (List ℕ)
  ns = missing_in records missing

  how_many : length ns ≡ get_or (words_in records) 5 0
  how_many = ap length (sym (any-names records names missing)) ∙ missing_count records names missing h

  pub missing_line
      : (o : ℕ × List ℕ) {n : ℕ} {p q r : ℕ × List ℕ} → n ≡ get_or (words_in records) 5 0 → p ≡ put (bytes "missing " ++ decimal_of n) o
      → q ≡ put (bytes "\n") p → r ≡ put (name_lines ns) q → r ≡ put (missing_lines ns) o
  unfolding missing_lines
  missing_line o en e f g =
      put_then _ _ o (put_then _ _ o (rw (en ∙ sym how_many) at e) f) g

  pub names_more
      : (k : ℕ) {name : List ℕ} (o : ℕ × List ℕ) {p q : ℕ × List ℕ} → k < get_or (words_in records) 5 0
      → name ≡ slot_name (part missing (514 * k) 514) → p ≡ put (name_text name) o → q ≡ put (bytes "\n") p
      → put (name_lines (drop (k + 1) ns)) q ≡ put (name_lines (drop k ns)) o
  unfolding name_lines
  names_more k {name} o l en e f =
      let n : get_or ns k [] ≡ name =
      ap (λ x. get_or x k []) (sym (any-names records names missing)) ∙ sym (en ∙ (missing_name records names missing h k l).1) in
      rw (add-one k, drop-cons ns k [] (omega (arith, how_many)), n)
      (put_then _ _ o (put_then _ _ o e f) refl)

  pub names-done : (k : ℕ) (o : ℕ × List ℕ) → get_or (words_in records) 5 0 ≤ k → o ≡ put (name_lines (drop k ns)) o
  unfolding name_lines put
  names-done k o l = rw (drop_of_length-le ns {i = k} (omega (arith, how_many)))
