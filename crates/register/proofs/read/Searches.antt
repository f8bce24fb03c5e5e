-- One turn of each search: what the record at `place` says of the module that stands there.
use Rattle.std.proofs.Common.{◌≡◌, ℕ, ◌+◌, ◌<◌, ◌≤◌, Bool, true, false, List, length, get_or, sym, refl, ap, ◌∙◌, arith, Some, None}
use Rattle.register.specs.Words.{part, words_in}
use Rattle.register.specs.Module.{Module}
use Rattle.register.specs.Encode.{flag}
use Rattle.register.specs.declared.read.Record.{Record}
use Rattle.register.specs.Read.Read.{modules_of, place_from, export_of, lookup_in, record_at, record_end, module_at}
use Rattle.register.specs.Read.Places.{RecordStands, stands_name}
use Rattle.register.specs.Read.Walk.{Walk, walk-fits, walk_stops, walk_goes, place_here, place_on, lookup_here, lookup_on, lookup_past}

flag_true : (b : Bool) → flag b ≡ 1 → b ≡ true
unfolding flag
flag_true true e = refl
flag_true false e = absurd (omega arith)

flag_false : (b : Bool) → (flag b ≡ 1 → ⊥) → b ≡ false
unfolding flag
flag_false true n = absurd (n refl)
flag_false false n = refl

-- the record r was read at `place`, after k others
module _ (records names : List ℕ) (place k : ℕ) {r : Record} (h : k < get_or (words_in records) 0 0) (er : r ≡ record_at records place) where
  ends : {end : ℕ} → end ≡ record_end r → end ≡ record_end (record_at records place)
  ends e = e ∙ ap record_end er

  pub end_fits : {A : Type 0} (f : ℕ → List Module → A) → Walk f records names place k → record_end r ≤ length records
  end_fits f w = rw er (walk-fits f records names w h)

  -- by a test, which says t of the record

  module _ (takes : Module → Bool) {t : Bool} (says : (m : Module) → RecordStands records names place m → t ≡ takes m)
      (w : Walk (λ p ms. place_from p ms takes) records names place k) where
    pub taken_here : t ≡ true → Some place ≡ place_from 32 (modules_of records names) takes
    taken_here e = walk_stops _ records names w h (λ m ms s. place_here place m ms takes (sym (says m s) ∙ e))

    pub taken_on : {end : ℕ} → end ≡ record_end r → t ≡ false → Walk (λ p ms. place_from p ms takes) records names end (k + 1)
    taken_on d e = walk_goes _ records names w h (ends d) (λ m ms s. place_on place m ms takes (sym (says m s) ∙ e))

  -- named lookup

  module _ (name : List ℕ) (w : Walk (λ p ms. lookup_in ms name) records names place k) where
    its_flag : (m : Module) → RecordStands records names place m → flag m.auto ≡ r.auto_link
    its_flag m s = sym (ap (λ (x : Record). x.auto_link) (er ∙ s.words))

    its_export : (m : Module) → RecordStands records names place m → export_of m name ≡ export_of (module_at records names place) name
    its_export m s = ap (λ x. export_of x name) (sym s.back)

    pub lookup_found
        : {a : ℕ} → r.auto_link ≡ 1 → export_of (module_at records names place) name ≡ Some a → Some a ≡ lookup_in (modules_of records names) name
    lookup_found p e =
        walk_stops _ records names w h
        (λ m ms s. lookup_here m ms name (flag_true m.auto (its_flag m s ∙ p)) (its_export m s ∙ e))

    pub lookup_lacks
        : {end : ℕ} → end ≡ record_end r → r.auto_link ≡ 1 → export_of (module_at records names place) name ≡ None
        → Walk (λ p ms. lookup_in ms name) records names end (k + 1)
    lookup_lacks d p e =
        walk_goes _ records names w h (ends d)
        (λ m ms s. lookup_on m ms name (flag_true m.auto (its_flag m s ∙ p)) (its_export m s ∙ e))

    pub lookup_skips
        : {end : ℕ} → end ≡ record_end r → (r.auto_link ≡ 1 → ⊥) → Walk (λ p ms. lookup_in ms name) records names end (k + 1)
    lookup_skips d n =
        walk_goes _ records names w h (ends d)
        (λ m ms s. lookup_past m ms name (flag_false m.auto (λ e. n (sym (its_flag m s) ∙ e))))

-- the two tests, on the record of a module

pub base_of_record : {records names : List ℕ} {place : ℕ} {m : Module} → RecordStands records names place m → m.base ≡ (record_at records place).base
base_of_record s = sym (ap (λ (x : Record). x.base) s.words)

pub name_of_record
    : {records names : List ℕ} {place : ℕ} {m : Module} → RecordStands records names place m
    → part names (record_at records place).name_offset (record_at records place).name_length ≡ m.name
name_of_record s = stands_name s
