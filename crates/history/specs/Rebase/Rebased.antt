-- What a rebase leaves: no module, a refused segment, or an image that shows its view.
use Rattle.std.specs.Prelude.{if◌then◌else◌, ℕ, ◌+◌, ◌^◌, ◌≤◌, ◌<◌, ◌≡◌, ◌⊎◌, Bool, Option, Some, None, Ok, Err}
use Rattle.std.proofs.Math.Path.{refl, ap}
use Rattle.std.proofs.Common.{sym, inl, inr, lit≤}
use Rattle.std.proofs.Math.Bool.{true, false}
use native.Mathlib.Omega.{arith}
use Rattle.window.specs.Memory.{◌⊕◌}
use Rattle.window.specs.Access.{Prog, ret, ◌>>=◌, ◌>>◌, get32}
use Rattle.window.specs.Within.{Low}
use Rattle.window.specs.Mirror.{word}
use Rattle.layout.specs.Header.{magic}
use Rattle.layout.specs.Format.{segment_type}
use Rattle.layout.specs.Tables.{pointer_tables}
use Rattle.linker_spec.specs.declared.rebase.LoadArguments.{LoadArguments}
use Rattle.linker_spec.specs.Refusal.{Rebased}
use Rattle.linker_spec.specs.Rebase.{is_magic, move_header, move_segments, look_at_segments, move_tables}
use Rattle.linker_spec.specs.Relocation.{apply_internal_relocations}
use Rattle.linker_spec.specs.Calls.{relocate, rebase_with, rebase, rebase_static}
use Rattle.linker_spec.specs.declared.refusal.RebaseError.{RebaseError}
use Rattle.history.specs.Image.{segments, entry, file_segment}
use Rattle.history.specs.LoadedModule.{initialized, loaded, Image, base_of, place_of, old_among, segment_place, old_place, Area}
use Rattle.history.specs.WellLaid.{header, InPart, Touched, internal, WellLaid}
use Rattle.history.specs.Steps.Wp.{Memory, Does, SameOutside, does_ret, does_then, does_read, reads_get32}
use Rattle.history.specs.Steps.View.{View}
use Rattle.history.specs.Steps.Reading.{plain-sum, four_at}
use Rattle.history.specs.Rebase.PartlyRebased.{word_is, PartlyRebased, Rows, Headed, headed_same}
use Rattle.history.specs.Rebase.Header.{unmoved, AsInFile, FileRows, header_does}
use Rattle.history.specs.Rebase.Segments.{looks, segments_move}
use Rattle.history.specs.Rebase.Viewed.{tables_move, viewed}
use Rattle.history.specs.Rebase.Internal.{InternalByte, internal_does}

module _ (m : Image) where
  -- a module that is not refused shows its view, its header moved
  unfoldable pub RebaseLeaves : Rebased → Memory → Type 0
  RebaseLeaves x N = (x ≡ Err RebaseError.NotACro) ⊎ (x ≡ Err RebaseError.BadSegment) ⊎ ((x ≡ Ok tt) × View m N × Headed m N)

module _ (m : Image) (laid : WellLaid m) (low : Low (Area m)) where
  abbrev F : ℕ → ℕ
  F = m.file

  abbrev base : ℕ
  base = base_of m.load_call

  abbrev S : ℕ → Type 0
  S = Area m

  -- what the segments' step leaves
  abbrev pub Segmented : Option ℕ → Memory → Type 0
  Segmented x N = (x ≡ None) ⊎ ((x ≡ Some (old_place m)) × PartlyRebased m unmoved N × Rows m N)

  inner_header : {M N : Memory} → SameOutside (InternalByte m) M N → Headed m M → Headed m N
  unfolding InPart Touched
  inner_header n h =
      headed_same m
      (λ o l. n (base + o) (λ c. laid.in_place_lem.words-off (internal c.0) c.1 c.2 header o (omega arith) tt c.3)) h

  relocated : (x : Option ℕ) (M : Memory) → Segmented x M → Does S (relocate base x) (RebaseLeaves m) M
  unfolding relocate RebaseLeaves
  relocated x M (inl e) = rw e (does_ret S (inr (inl refl)))
  relocated x M (inr h) =
      rw h.0
      (does_then S (move_tables true base pointer_tables) _ (tables_move m laid low h.1 h.2)
      (λ _ N g.
      does_then S (apply_internal_relocations base (old_place m)) _ (internal_does m laid low g.0 (viewed m laid low g.0 g.1))
      (λ _ L k.
      does_ret S
      (inr
      (inr
      (refl, k.0, inner_header k.1 (record { fields = g.0.fields; header-plain = g.0.header-plain })))))))

  pub rebased_with
      : {B : Memory} → AsInFile m B → (step : Prog (Option ℕ))
      → ((M : Memory) → PartlyRebased m unmoved M → FileRows m M → Does S step Segmented M) → Does S (rebase_with base step) (RebaseLeaves m) B
  unfolding rebase_with RebaseLeaves
  rebased_with {B} fresh step f =
      let i = laid.alone.header-inside in
      let b = plain-sum m laid low magic (omega (arith, i)) in
      let z : base ⊕ magic ≡ base + magic = omega (arith, b) in
      rw z
      (does_read S (get32 (base + magic)) _ (word B (base + magic)) (reads_get32 S _ (four_at m laid low magic (omega (arith, i))) refl)
      (go (is_magic (word B (base + magic)))))
    where
      go : (c : Bool) → Does S (if c then (move_header true base >>= λ _. step >>= λ x. relocate base x) else ret (Err RebaseError.NotACro)) (RebaseLeaves m) B
      go true =
          does_then S (move_header true base) _ (header_does m laid low fresh)
          (λ _ M h. does_then S step _ (f M h.0 h.1) (λ x N g. relocated x N g))
      go false = does_ret S (inl refl)

-- a module that is loaded
module _ (l : LoadArguments) (auto : Bool) (level : ℕ) (f : ℕ → ℕ) where
  abbrev m₁ : Image
  m₁ = record { load_call = loaded l auto level; file = f }

  pub rebased
      : (laid : WellLaid m₁) (low : Low (Area m₁)) → ((o : ℕ) → o < l.size → f o < 256) → l.data_segment < 2 ^ 32 → l.bss_segment < 2 ^ 32
      → {B : Memory} → AsInFile m₁ B → Does (Area m₁) (rebase l) (RebaseLeaves m₁) B
  unfolding rebase
  rebased laid low bytes d b fresh =
      rebased_with m₁ laid low fresh (move_segments l) (λ M s r. segments_move l auto level f laid low bytes d b s r)

-- the CRS
module _ (at size : ℕ) (f : ℕ → ℕ) where
  abbrev m₀ : Image
  m₀ = record { load_call = initialized at size; file = f }

  old_0 : old_place m₀ ≡ 0
  unfolding old_place old_among
  old_0 = refl

  module _ (laid : WellLaid m₀) (low : Low (Area m₀)) where
    file-row : {M : Memory} → FileRows m₀ M → Rows m₀ M
    unfolding segment_place place_of file_segment
    file-row {M} r i l =
        record {
          place = word_is f M at (entry f segments i) (λ k h. r i k l (omega arith));
          size = word_at 4 (lit≤ tt);
          kind = ap segment_type (word_at 8 (lit≤ tt));
        }
      where
        word_at : (x : ℕ) → x + 4 ≤ 12 → word M (at + (entry f segments i + x)) ≡ word f (entry f segments i + x)
        word_at x h =
            word_is f M at (entry f segments i + x)
            (λ k g. let e : entry f segments i + x + k ≡ entry f segments i + (x + k) = omega arith in rw e (r i (x + k) l (omega arith)))

    pub rebased_static : {B : Memory} → AsInFile m₀ B → Does (Area m₀) (rebase_static at) (RebaseLeaves m₀) B
    unfolding rebase_static
    rebased_static fresh =
        rebased_with m₀ laid low fresh (look_at_segments at >> ret (Some 0))
        (λ M s r.
        does_then (Area m₀) (look_at_segments at) _ (looks m₀ laid low s r)
        (λ _ N e. rw e (does_ret (Area m₀) (inr (ap Some (sym old_0), s, file-row r)))))
