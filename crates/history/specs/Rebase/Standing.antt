-- After a rebase and the external reset a module stands without links, its list words as the file has them.
use Rattle.std.specs.Prelude.{ℕ, ◌+◌, ◌*◌, ◌/◌, ◌≤◌, ◌<◌, ◌≡◌, refl, None}
use Rattle.std.proofs.Math.Path.{ap}
use Rattle.std.proofs.Common.{◌∙◌, inl, inr, arith, lit<, lit≤}
use Rattle.window.specs.Bytes.{byte_of}
use Rattle.window.specs.Within.{Low}
use Rattle.window.specs.Mirror.{word}
use Rattle.layout.specs.Header.{next_cro, previous_cro}
use Rattle.linker_spec.specs.Relocation.{reset_external_relocations}
use Rattle.history.specs.Below.{AllBelow, below}
use Rattle.history.specs.Image.{externals, count}
use Rattle.history.specs.LoadedModule.{Image, base_of, size_of, Area}
use Rattle.history.specs.WellLaid.{header, table, InPart, Touched, external, WellLaid}
use Rattle.history.specs.Steps.Wp.{Memory, Does, SameOutside, does_mono}
use Rattle.history.specs.Steps.View.{View}
use Rattle.history.specs.Steps.Parts.{sort, apart, external_part}
use Rattle.history.specs.Steps.ModuleBytes.{mark_offset, word_count_lem}
use Rattle.history.specs.Steps.Links.{symbol_for, mark_for, symbols, marks, Stands}
use Rattle.history.specs.Rebase.PartlyRebased.{Headed, headed_same}
use Rattle.history.specs.Rebase.Reset.{ExternalByte, reset_does}

-- the bytes of a word are those that it was read from
pub byte_word : (F : ℕ → ℕ) (o k : ℕ) → k < 4 → ((i : ℕ) → i < 4 → F (o + i) < 256) → F (o + k) ≡ byte_of k (word F o)
unfolding word byte_of AllBelow
byte_word F o k l h =
    let z : o + 0 ≡ o = omega arith in
    let a : F o < 256 = rw z at (h 0 (lit< tt)) in
    let b = h 1 (lit< tt) in
    let c = h 2 (lit< tt) in
    let d = h 3 (lit< tt) in
    let q₁ : word F o / 256 ≡ F (o + 1) + 256 * (F (o + 2) + 256 * F (o + 3)) = omega (arith, a) in
    let q₂ : (F (o + 1) + 256 * (F (o + 2) + 256 * F (o + 3))) / 256 ≡ F (o + 2) + 256 * F (o + 3) = omega (arith, b) in
    let q₃ : (F (o + 2) + 256 * F (o + 3)) / 256 ≡ F (o + 3) = omega (arith, c) in
    let e₀ : F (o + 0) ≡ byte_of 0 (word F o) = rw z (omega (arith, a)) in
    let e₁ : F (o + 1) ≡ byte_of 1 (word F o) = rw q₁ (omega (arith, b)) in
    let e₂ : F (o + 2) ≡ byte_of 2 (word F o) = rw (q₁, q₂) (omega (arith, c)) in
    let e₃ : F (o + 3) ≡ byte_of 3 (word F o) = rw (q₁, q₂, q₃) (omega (arith, d)) in
    below (λ j. F (o + j) ≡ byte_of j (word F o)) 4 k l (e₃, (e₂, (e₁, (e₀, tt))))

module _ (m : Image) (laid : WellLaid m) (low : Low (Area m)) where
  abbrev F : ℕ → ℕ
  F = m.file

  abbrev base : ℕ
  base = base_of m.load_call

  -- nothing of it is in the header
  outer_header : (o j : ℕ) → o < 0x138 → j < count F externals → ExternalByte m j (base + o) → ⊥
  unfolding InPart Touched
  outer_header o j l h (inl a) = laid.in_place_lem.words-off (external j) a.0 a.1 header o l tt a.2
  outer_header o j l h (inr e) =
      let d = mark_offset m laid o j e in
      apart m laid header (table 5) o (λ z. absurd (omega (arith, ap sort z))) l (rw d (external_part m laid j 6 h (lit< tt)))

  outer_headed : {M N : Memory} → Headed m M → SameOutside (λ q. (j : ℕ) × (j < count F externals) × ExternalByte m j q) M N → Headed m N
  outer_headed h k = headed_same m (λ o l. k (base + o) (λ c. outer_header o c.0 l c.1 c.2)) h

  module _ (bytes : (o : ℕ) → o < size_of m.load_call → F o < 256) where
    list_word
        : {N : Memory} → Headed m N → (x k : ℕ) → 0x88 ≤ x → x + 4 ≤ 0x90 → k < 4 → N (base + x + k) ≡ byte_of k (word F x)
    list_word h x k a b l =
        let e : base + x + k ≡ base + (x + k) = omega arith in
        let i = laid.alone.header-inside in
        rw e
        (h.header-plain (x + k) (omega arith) ((λ c. absurd (omega (arith, c))), λ j g c. absurd (omega (arith, c)))
        ∙ byte_word F x k l (λ j g. bytes (x + j) (omega (arith, i))))

    -- the module stands at rest, with no links
    pub reset_stands
        : {M : Memory} → View m M → Headed m M
        → Does (Area m) (reset_external_relocations base)
        (λ _ N. View m N × Headed m N × Stands m N (λ _. None) (word F next_cro) (word F previous_cro) N) M
    unfolding symbols marks symbol_for mark_for
    reset_stands v h =
        does_mono (Area m) (reset_does m laid low v)
        (λ _ N r.
        let g = outer_headed h r.2 in (
          r.0,
          g,
          record {
            shows =
                record {
                  words = λ j p k l w. (r.1 j (word_count_lem m laid j p w)).word-reset p k l w;
                  marks = λ j l. (r.1 j l).mark-reset;
                  nexts = λ k l. list_word g 0x88 k (lit≤ tt) (lit≤ tt) l;
                  previouses = λ k l. list_word g 0x8c k (lit≤ tt) (lit≤ tt) l;
                  rest = λ q a o. refl;
                };
          },
        ))
