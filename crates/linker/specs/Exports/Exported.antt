-- What `index_exports` answers, and what it leaves in the records and names that it is lent.
use Rattle.std.specs.Prelude.{if◌then◌else◌, ◌≡◌, ℕ, zero, suc, ◌^◌, ◌<◌, Bool, true, List, [], length, drop, slice_index, Option, Some, None}
use Rattle.std.proofs.Math.Path.{refl, sym}
use Rattle.std.proofs.Common.{ap, ◌∙◌, subst}
use Rattle.window.specs.Access.{run}
use Rattle.register.specs.Words.{words_in}
use Rattle.register.specs.Module.{Module, Register, proper_module}
use Rattle.register.specs.Encode.{encode_words}
use Rattle.register.specs.Decode.{read_slots, settled, read_register, register_of, is_register}
use Rattle.register.specs.CheckIs.{register-parts}
use Rattle.register.specs.Change.{new_module, with_named, appended}
use Rattle.register.specs.Buffers.{Below, encode_records, encode_names}
use Rattle.register.specs.Read.Read.{Encoded}
use Rattle.register.specs.declared.append.draft.Draft.{Draft}
use Rattle.register.specs.Append.Draft.{begin_record, finish_record}
use Rattle.linker_spec.specs.Exports.{read_segments, named_exports, indexed_exports, read_module}
use Rattle.linker_spec.specs.Calls.{Answer, Done, fits, Refused}
use Rattle.linker_spec.specs.Outcome.{Buffers, register_after}
use Rattle.linker_spec.specs.declared.refusal.Refusal.TheVariants.{NoRoom}
use Rattle.linker.specs.Record.Read.{own_name, module_is}
use Rattle.linker.specs.Exports.Writing.{Ground, Writing, roomy, fits-roomy, holding, finishes, stays, writing_is, begin_writing}
use Rattle.linker.specs.Exports.Proper.{module_proper}
use Rattle.linker.specs.Exports.Modules.{with_segments, with_indexeds, DraftStep, EmptyModule, Lists, full_lists}

-- the register that records and names encode; its missing names stand in a buffer of their own: each is read as empty here, and
-- only how many they are is told
unfoldable pub register_in : List ℕ → List ℕ → Register
register_in records names = register_of records names []

-- the answer of document 01's table that each case is, r being the register with the module
unfoldable pub entry_answer : Register → Option (Unit {0}) → Answer
entry_answer r (Some _) = Done 0 r
entry_answer r None = Refused NoRoom

-- the records and the names that an answer leaves
abbrev pub left_by : List ℕ → List ℕ → Answer → Buffers
left_by records names a = register_after (record { window = []; records = records; names = names; missing = [] }) [] a

-- the answer, and the encoding with one module more where it has room, else every byte as before
unfoldable pub exported : List ℕ → List ℕ → Module → Answer × List ℕ × List ℕ
exported records names m =
    let r = register_in records names in
    let a = if fits (length records) (length names) r m then Done 0 (appended r m) else Refused NoRoom in
    (a, (left_by records names a).records, (left_by records names a).names)

-- the register that the buffers then encode
unfoldable pub register_with : List ℕ → List ℕ → Register → Module → Register
register_with records names r m = if fits (length records) (length names) r m then appended r m else r

-- the register with its missing names has the same words, since only their count is among them

slots-counted : (n : ℕ) (bytes : List ℕ) → length (read_slots n bytes) ≡ n
unfolding read_slots
slots-counted zero bytes = refl
slots-counted (suc n) bytes = ap suc (slots-counted n (drop 514 bytes))

module _ (records names missing : List ℕ) (m : Module) where
  words_in_lem : encode_words (appended (register_in records names) m) ≡ encode_words (appended (register_of records names missing) m)
  unfolding encode_words appended register_in register_of read_register
  words_in_lem = rw (slots-counted (slice_index (settled (words_in records)) 5) [], slots-counted (slice_index (settled (words_in records)) 5) missing)

  pub fits_in_lem : (lr ln : ℕ) → fits lr ln (register_in records names) m ≡ fits lr ln (register_of records names missing) m
  unfolding fits appended register_in register_of read_register
  fits_in_lem lr ln = rw words_in_lem

  pub records_in : (n : ℕ) → encode_records n (appended (register_in records names) m) ≡ encode_records n (appended (register_of records names missing) m)
  unfolding encode_records
  records_in n = rw words_in_lem

  pub names_in : (n : ℕ) → encode_names n (appended (register_in records names) m) ≡ encode_names n (appended (register_of records names missing) m)
  unfolding encode_names appended register_in register_of read_register
  names_in n = refl

-- the answer and the bytes; and they are a register again, that one
abbrev pub ExportsLeave : List ℕ → List ℕ → List ℕ → Module → Option (Unit {0}) → List ℕ → List ℕ → Type 0
ExportsLeave records names missing m i rs ns =
    (◌≡◌ {A = Answer × List ℕ × List ℕ} (entry_answer (appended (register_in records names) m) i, rs, ns) (exported records names m))
    × (is_register rs ns missing ≡ true)
    × (register_of rs ns missing ≡ register_with records names (register_of records names missing) m)

-- the answer and the bytes once for all missing lists; and for each that they were a register with, they are one again
pub for_all
    : (records names : List ℕ) (m : Module) (i : Option (Unit {0})) (rs ns : List ℕ) → Encoded records names
    → ((missing : List ℕ) → is_register records names missing ≡ true → ExportsLeave records names missing m i rs ns)
    → (◌≡◌ {A = Answer × List ℕ × List ℕ} (entry_answer (appended (register_in records names) m) i, rs, ns) (exported records names m))
    × ((missing : List ℕ) → is_register records names missing ≡ true → (is_register rs ns missing ≡ true)
    × (register_of rs ns missing ≡ register_with records names (register_of records names missing) m))
for_all records names m i rs ns e o = ((o e.0 e.1).0, λ missing h. ((o missing h).1, (o missing h).2))

-- buffers that encode a register
module _ (records names missing : List ℕ) (b : Below 256 records) (e : is_register records names missing ≡ true) where
  abbrev pub ground : Ground
  ground =
      record {
        records = records;
        names = names;
        missing = missing;
        register = register_of records names missing;
        right = (register-parts records names missing e).0;
        holds = (register-parts records names missing e).1;
        bytes = b;
      }

  module _ (m : Module) (rs ns : List ℕ) where
    room : {t : Bool} → roomy ground m ≡ t → fits (length records) (length names) (register_in records names) m ≡ t
    room z = fits_in_lem records names missing m (length records) (length names) ∙ fits-roomy ground m ∙ z

    full_is : Writing ground m None rs ns → ExportsLeave records names missing m None rs ns
    unfolding exported entry_answer register_after register_with Writing
    full_is h = (
      rw (room h.2, h.0, h.1),
      rw (h.0, h.1) e,
      rw (fits-roomy ground m, h.2, h.0, h.1),
    )

    open_is : (d : Draft) → proper_module m ≡ true → Writing ground m (Some d) rs ns → ExportsLeave records names missing m (Some tt) (finish_record rs d) ns
    unfolding exported entry_answer register_after register_with
    open_is d p h =
        let f = finishes ground m d rs ns h in
        let s = stays ground m d rs ns h p in (
          rw (
            room (holding ground m d rs ns h),
            records_in records names missing m (length records),
            names_in records names missing m (length names),
            f.0,
            f.1,
          ),
          s.0,
          rw (fits-roomy ground m, holding ground m d rs ns h) s.1,
        )

-- the record begun, filled and finished
module _ (at : ℕ) (w rs ns : List ℕ) (base size : ℕ) (auto : Bool) (b : Below 256 rs) (hb : base < 2 ^ 32) (hs : size < 2 ^ 32)
    (missing : List ℕ) (h : is_register rs ns missing ≡ true) (r₁ : Option Draft) (rs₁ ns₁ : List ℕ)
    (e : ◌≡◌ {A = Option Draft × List ℕ × List ℕ} (r₁, rs₁, ns₁) (begin_record rs ns base size auto (own_name at w base))) where
  abbrev g : Ground
  g = ground rs ns missing b h

  abbrev new : Module
  new = new_module base size auto (own_name at w base)

  abbrev all : Module → Module
  all = Lists (run at (read_segments base) w).0 (run at (named_exports base) w).0 (run at (indexed_exports base) w).0

  new-empty : EmptyModule new
  unfolding new_module
  new-empty = (refl, (refl, refl))

  all_is : all new ≡ (run at (read_module base size auto) w).0
  unfolding new_module with_segments with_named with_indexeds
  all_is = sym (module_is at w base size auto)

  begun : Writing g new r₁ rs₁ ns₁
  begun = writing_is g new e (begin_writing g base size auto (own_name at w base) hb hs)

  abbrev Leaves : Option (Unit {0}) → List ℕ → List ℕ → Type 0
  Leaves i rs' ns' = ExportsLeave rs ns missing (run at (read_module base size auto) w).0 i rs' ns'

  of_all : (i : Option (Unit {0})) {rs' ns' : List ℕ} → ExportsLeave rs ns missing (all new) i rs' ns' → Leaves i rs' ns'
  of_all i {rs'} {ns'} o = subst (λ m. ExportsLeave rs ns missing m i rs' ns') all_is o

  pub not-begun : r₁ ≡ None → Leaves None rs₁ ns₁
  not-begun z =
      of_all None
      (full_is rs ns missing b h (all new) rs₁ ns₁ (full_lists _ _ _ g new rs₁ ns₁ new-empty (subst (λ t. Writing g new t rs₁ ns₁) z begun)))

  module _ (d₁ : Draft) (z₁ : r₁ ≡ Some d₁) (r₂ : Option Draft) (rs₂ ns₂ : List ℕ) (t : DraftStep EmptyModule (λ m. m) all d₁ rs₁ ns₁ r₂ rs₂ ns₂) where
    filled : Writing g (all new) r₂ rs₂ ns₂
    filled = t g new new-empty (subst (λ x. Writing g new x rs₁ ns₁) z₁ begun)

    pub not_filled : r₂ ≡ None → Leaves None rs₂ ns₂
    not_filled z = of_all None (full_is rs ns missing b h (all new) rs₂ ns₂ (subst (λ x. Writing g (all new) x rs₂ ns₂) z filled))

    pub finished_all : (d₂ : Draft) {rs₃ : List ℕ} → r₂ ≡ Some d₂ → rs₃ ≡ finish_record rs₂ d₂ → Leaves (Some tt) rs₃ ns₂
    finished_all d₂ z f =
        subst (λ x. Leaves (Some tt) x ns₂) (sym f)
        (of_all (Some tt)
        (open_is rs ns missing b h (all new) rs₂ ns₂ d₂ (ap proper_module all_is ∙ module_proper at w base size auto)
        (subst (λ x. Writing g (all new) x rs₂ ns₂) z filled)))
