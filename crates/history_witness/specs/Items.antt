-- What the two sessions reach, as ten numbered items; every word named is one that antt computes.
use Rattle.std.specs.Prelude.{ℕ, ◌+◌, ◌≡◌, refl, ◌≢◌, [], ◌∷◌, true, ◌||◌, eqb, Some, None}
use Rattle.std.proofs.Common.{ap, arith}
use Rattle.window.specs.Memory.{◌⊕◌, ◌⊖◌, word_at}
use Rattle.window.specs.Mirror.{word}
use Rattle.layout.specs.declared.format.SegmentType.TheVariants.{Data, Bss}
use Rattle.linker_spec.specs.Calls.{number}
use Rattle.linker_spec.specs.declared.call.Call.TheVariants.{Load}
use Rattle.history.specs.Image.{indexed_exports, externals, entry, module_name, tag, kind}
use Rattle.history.specs.LoadedModule.{address, handler, old_place, placed_segment, export_of, indexed_of, anonymous_of}
use Rattle.history.specs.Imports.{named, indexed, anonymous, InRun, From, BatchOf}
use Rattle.history.specs.Sessions.{CallRecord, after, expected, unfit, loaded_modules, standing, Trace, Between}
use Rattle.history.specs.Outcomes.{Made, Promised}
use Rattle.history.specs.Below.{Each}
use Rattle.history.specs.Demand3.{Premises, SameStanding}
use Rattle.history_witness.specs.Image.{cro}
use Rattle.history_witness.specs.Open.{opened}
use Rattle.history_witness.specs.Laid.{a-batch}
use Rattle.history_witness.specs.Tested.{tested}
use Rattle.history_witness.specs.Exact.{came, brings, came_are}
use Rattle.history_witness.specs.PageBefore.{at, bt, page_before}
use Rattle.history_witness.specs.Computed.{large, shown, o₁, o₂, o₃, o₇}
use Rattle.history_witness.specs.Sessions.{t₁, t₂, t₃, t₄, t₅, t₆, t₇, t₈, t₉, A, u₁, u₃, u₄, B, M, N, end_alike}
use Rattle.history_witness.specs.Premises.{trace_a, trace_b, made_a, made_b, premises_a, premises_b, others_write}

-- the premises of `Demand3 Promised` are met
pub record Met : Type 0 where
  pub trace_a : Trace at A
  pub trace_b : Trace bt B
  pub made_a : Made Promised A
  pub made_b : Made Promised B
  pub premises_a : Premises A
  pub premises_b : Premises B
  pub alike : SameStanding (standing A) (standing B)

pub met : Met
met =
    record {
      trace_a = trace_a;
      trace_b = trace_b;
      made_a = made_a;
      made_b = made_b;
      premises_a = premises_a;
      premises_b = premises_b;
      alike = end_alike;
    }

-- the word at x that a call leaves
abbrev LeavesWord : CallRecord → ℕ → ℕ → Type 0
LeavesWord t x v = word_at at (after t).window x ≡ v

-- a word of `m` after its own load, after the load of `n` and after the unload of `n`: the handler's, the exporter's, the handler's
abbrev LinkedThenReset : (x handled linked : ℕ) → Type 0
LinkedThenReset x handled linked = LeavesWord t₅ x handled × LeavesWord t₆ x linked × LeavesWord t₈ x handled

pub record Items : Type 0 where
  -- the handler of `m`, and what `n` exports by name, by index and by a tag
  pub handled : handler M ≡ 0x100400
  pub by_name : export_of N (0x67 ∷ []) ≡ Some 0x10057c
  pub by_index : indexed_of N 1 ≡ Some 0x100584
  pub by_tag : anonymous_of N 0x80 ≡ Some 0x100580
  -- the import `s` of `m` and the import `f` of the CRS are patched by the load of `m`
  pub own_import : LeavesWord t₅ 0x100400 (0x100170 ⊕ 4)
  pub crs_import : LeavesWord t₄ 0x100168 (0x100168 ⊕ 4) × LeavesWord t₅ 0x100168 (0x100408 ⊕ 4)
  -- item 1: the named import `g` is patched by the load of `n` and reset by its unload
  pub reset : LinkedThenReset 0x100408 (0x100400 ⊕ 8) (0x10057c ⊕ 8)
  -- item 2: the module entry's two imports, patched and reset
  pub from-n : From M.file (indexed 0) (module_name N.file) × From M.file (anonymous 0) (module_name N.file)
  pub indexed_patched : LinkedThenReset 0x1005a0 0x100400 0x100584
  pub anonymous_patched : LinkedThenReset 0x1005b4 0x100400 0x100580
  -- item 3: the batch of `g` has two entries, of kinds 3 and 10, and both words are written
  pub batch : BatchOf M.file (named 1) 1 2
  pub kinds : (kind M.file externals 1 ≡ 3) × (kind M.file externals 2 ≡ 10)
  pub both_words : LinkedThenReset 0x100404 (0x100400 ⊖ 0x100404) (0x10057c ⊖ 0x100404) × LinkedThenReset 0x100408 (0x100400 ⊕ 8) (0x10057c ⊕ 8)
  -- item 4: an external entry and an indexed export whose tags give no address; where the first points nothing is written
  pub unusable : (address M (tag M.file externals 4) ≡ None) × (address N (word N.file (entry N.file indexed_exports 0)) ≡ None) × (indexed_of N 0 ≡ Some 0)
  pub not_written : LinkedThenReset 0x1005a8 0 0
  -- item 5: Data in a lent area; the internal word is written at the old place in the image, and not in the lent area
  pub data_placed : placed_segment M 1 ≡ Some (record { offset = 0x1005a0; size = 8; kind = Data })
  pub old-place : old_place M ≡ 0x1003f8
  pub internal_word_lem : LeavesWord t₅ (0x1003f8 + 4) (0x100400 ⊕ 4) × LeavesWord t₅ (0x1005a0 + 4) 0
  -- item 6: Bss in a lent area, which holds the word of the anonymous import
  pub bss_placed : placed_segment M 2 ≡ Some (record { offset = 0x1005b0; size = 8; kind = Bss })
  -- item 7: refused calls before the CRS, one with number 1 on the session's own bytes and two that are lent what breaks a rule
  pub none_yet : loaded_modules (t₃ ∷ t₂ ∷ t₁ ∷ []) ≡ []
  pub refused_1 : (expected t₁).number ≡ 1
  pub refused_3 : ((expected t₂).number ≡ 3) × (unfit t₂ ≡ true)
  pub refused_4 : ((expected t₃).number ≡ 4) × (unfit t₃ ≡ true)
  -- item 8: a 5 that leaves every byte
  pub refused_5 : ((expected t₇).number ≡ 5) × ((expected t₇).left ≡ t₇.before)
  -- item 9: others write between two calls
  pub written : LeavesWord t₄ 0x100280 0 × (word_at at t₅.before.window 0x100280 ≡ cro)
  pub between : Between at (t₄ ∷ t₁ ∷ []) (after t₄) t₅.before
  -- item 10: the second session is on another window, with another auto-link parameter, and ends alike
  pub windows : t₄.at ≢ u₁.at
  pub auto : (t₅.call ≡ Load large 1 1) × (u₃.call ≡ Load large 2 1)
  pub alike : SameStanding (standing A) (standing B)
  -- there `m` comes after `n`: its own load links the batch of `g` and the module entry; then `n`, the head of the list, leaves
  pub own-load : (word_at bt (after u₃).window 0x100408 ≡ 0x10057c ⊕ 8) × (word_at bt (after u₃).window 0x1005a0 ≡ 0x100584)
  pub own-reset : (word_at bt (after u₄).window 0x100408 ≡ 0x100400 ⊕ 8) × (word_at bt (after u₄).window 0x1005a0 ≡ 0x100400)
  pub same_end : (after u₄).window ≡ page_before (after t₉).window
  pub heads : (word_at bt (after u₃).window 0x100088 ≡ 0x100420) × (word_at bt (after u₄).window 0x100088 ≡ 0x100200)

none_came : loaded_modules (t₃ ∷ t₂ ∷ t₁ ∷ []) ≡ []
unfolding Each came brings
none_came = came_are (t₃ ∷ t₂ ∷ t₁ ∷ []) (o₃, (o₂, (o₁, tt)))

unfit_by : (t : CallRecord) (n : ℕ) → (expected t).number ≡ n → (eqb n 3 || eqb n 4) ≡ true → unfit t ≡ true
unfolding unfit number
unfit_by t n e h = rw e h

pub items : Items
unfolding opened shown tested page_before From InRun
items =
    record {
      handled = refl;
      by_name = refl;
      by_index = refl;
      by_tag = refl;
      own_import = refl;
      crs_import = (refl, refl);
      reset = (refl, refl, refl);
      from-n = ((0, omega arith, (0, omega arith, refl), refl), (0, omega arith, (0, omega arith, refl), refl));
      indexed_patched = (refl, refl, refl);
      anonymous_patched = (refl, refl, refl);
      batch = a-batch M.file 0x210 refl (named 1) refl;
      kinds = (refl, refl);
      both_words = ((refl, refl, refl), (refl, refl, refl));
      unusable = (refl, refl, refl);
      not_written = (refl, refl, refl);
      data_placed = refl;
      old-place = refl;
      internal_word_lem = (refl, refl);
      bss_placed = refl;
      none_yet = none_came;
      refused_1 = ap (λ o. o.number) o₁;
      refused_3 = (ap (λ o. o.number) o₂, unfit_by t₂ 3 (ap (λ o. o.number) o₂) refl);
      refused_4 = (ap (λ o. o.number) o₃, unfit_by t₃ 4 (ap (λ o. o.number) o₃) refl);
      refused_5 = (ap (λ o. o.number) o₇, ap (λ o. o.left) o₇);
      written = (refl, refl);
      between = others_write;
      windows = λ e. absurd (omega arith);
      auto = (refl, refl);
      alike = end_alike;
      own-load = (refl, refl);
      own-reset = (refl, refl);
      same_end = refl;
      heads = (refl, refl);
    }
