-- What follows from links at rest: every import holds its address, and no byte of a module's areas is left open.
use Rattle.std.specs.Prelude.{ℕ, ◌^◌, ◌≤◌, ◌<◌, ◌≡◌, Option, Some, None}
use Rattle.std.proofs.Common.{sym, ◌∙◌, arith}
use Rattle.std.proofs.Math.Path.{ap, fun_ext}
use Rattle.window.specs.Bytes.{byte_of, join-bytes, join-at}
use Rattle.window.specs.Within.{Agree}
use Rattle.window.specs.Mirror.{word}
use Rattle.layout.specs.Format.{relocation_type}
use Rattle.layout.specs.Relocation.Relocation.{relocated_word}
use Rattle.layout.specs.declared.format.RelocationType.{RelocationType}
use Rattle.layout.specs.declared.format.RelocationType.TheVariants.{AbsoluteAddress, RelativeAddress, ThumbBranch, ArmBranch, ModifyArmBranch, AlignedRelativeAddress, Unknown}
use Rattle.history.specs.Image.{externals, count, tag, kind, addend}
use Rattle.history.specs.LoadedModule.{Image, address, handler, Area}
use Rattle.history.specs.Imports.{Import, IsImport, BatchOf, Exporter, Holds}
use Rattle.history.specs.WellLaid.{external, WordAt, WellLaid}
use Rattle.history.specs.Steps.Wp.{Memory}
use Rattle.history.specs.Steps.ModuleBytes.{word_for, value_of, shows_unique}
use Rattle.history.specs.Steps.Batch.{Sort, writes, writes_not, sort, word_nothing}
use Rattle.history.specs.Steps.Links.{Links, symbol_for, symbols, first_in, Stands}
use Rattle.history.specs.Steps.Runs.{Begins}
use Rattle.history.specs.Steps.LinksResolved.{LinksResolved, either}

-- a relocated word is a word
word_low : (t : RelocationType) (d a p v : ℕ) → relocated_word t d a p ≡ Some v → v < 2 ^ 32
word_low t d a p v e = rw (ap word_of e) at (low t d a p)
  where
    word_of : Option ℕ → ℕ
    word_of (Some u) = u
    word_of None = 0

    low : (t : RelocationType) (d a p : ℕ) → word_of (relocated_word t d a p) < 2 ^ 32
    low RelocationType.Nothing d a p = omega arith
    low AbsoluteAddress d a p = omega arith
    low RelativeAddress d a p = omega arith
    low ThumbBranch d a p = omega arith
    low ArmBranch d a p = omega arith
    low ModifyArmBranch d a p = omega arith
    low AlignedRelativeAddress d a p = omega arith
    low (Unknown k) d a p = omega arith

module _ (m : Image) {T : Memory} {φ : Links} {n v : ℕ} {M : Memory} (s : Stands m T φ n v M) where
  abbrev F : ℕ → ℕ
  F = m.file

  word-there
      : (j p d a u : ℕ) → j < count F externals → address m (tag F externals j) ≡ Some p
      → relocated_word (relocation_type (kind F externals j)) d a p ≡ Some u → WordAt m (external j) p
  unfolding WordAt
  word-there j p d a u l e r = go (sort (relocation_type (kind F externals j)))
    where
      go : Sort (relocation_type (kind F externals j)) → WordAt m (external j) p
      go (writes f) = (l, f 0 0 0, e)
      go (writes_not f) = absurd (word_nothing u (sym r ∙ f d a p))

  symbol_is : (j e f : ℕ) (i : Import) (y : Option ℕ) → BatchOf F i e f → e ≤ j → j ≤ f → φ e ≡ y → symbols m φ j ≡ symbol_for (handler m) y
  unfolding symbols
  symbol_is j e f i y b l h g = ap (symbol_for (handler m)) (ap φ (first_in m e f j b.run l h) ∙ g)

  value_there
      : (j p a u : ℕ) → relocated_word (relocation_type (kind F externals j)) (addend F externals j) a p ≡ Some u → value_of m j a p ≡ u
  unfolding value_of word_for
  value_there j p a u r = ap word_for r

  -- an import whose link is known holds the symbol that it stands for
  pub holds
      : (i : Import) (y : Option ℕ) → ((e f : ℕ) → BatchOf F i e f → φ e ≡ y) → Holds M m i (symbol_for (handler m) y)
  unfolding Holds word
  holds i y g e f j b l h p u a r =
      let w = word-there j p (addend F externals j) (symbol_for (handler m) y) u (omega (arith, b.run.inside)) a r in
      let q : value_of m j (symbols m φ j) p ≡ u =
      ap (λ x. value_of m j x p) (symbol_is j e f i y b l h (g e f b)) ∙ value_there j p (symbol_for (handler m) y) u r in
      let z = word_low (relocation_type (kind F externals j)) (addend F externals j) (symbol_for (handler m) y) p u r in
      join-at M (λ k. byte_of k u) p (λ k c. s.shows.words j p k c w ∙ ap (byte_of k) q) ∙ join-bytes u ∙ omega (arith, z)

  module _ (count_of : ℕ) (x : ℕ → Image) (rest : LinksResolved count_of x m φ) where
    -- the exporter's address, if one of those that stand is the exporter
    pub holds_exporter
        : (i : Import) → IsImport F i → (k : ℕ) → k < count_of → (p : ℕ) → Exporter (x k) m i p → Holds M m i p
    unfolding symbol_for
    holds_exporter i l k g p h = holds i (Some p) (λ e f b. rest.found i l e b.first k g p h)

    -- else the handler's
    pub holds-handler
        : (i : Import) → IsImport F i → ((k : ℕ) → k < count_of → (p : ℕ) → Exporter (x k) m i p → ⊥) → Holds M m i (handler m)
    unfolding symbol_for
    holds-handler i l o = holds i None (λ e f b. rest.missing i l e b.first o)

-- links at rest are determined by the modules that stand
pub resolved_unique : (n : ℕ) (x : ℕ → Image) (m : Image) {φ ψ : Links} → LinksResolved n x m φ → LinksResolved n x m ψ → (e : ℕ) → φ e ≡ ψ e
resolved_unique n x m {φ} {ψ} f g e =
    either ((i : Import) × IsImport m.file i × Begins m.file i e) (φ e) (ψ e) (λ (i, l, b). at i l b)
    (λ o. f.others e (λ i l b. o (i, l, b)) ∙ sym (g.others e (λ i l b. o (i, l, b))))
  where
    at : (i : Import) → IsImport m.file i → Begins m.file i e → φ e ≡ ψ e
    at i l b =
        either ((k : ℕ) × (k < n) × (p : ℕ) × Exporter (x k) m i p) (φ e) (ψ e)
        (λ h. f.found i l e b h.0 h.1 h.2 h.3 ∙ sym (g.found i l e b h.0 h.1 h.2 h.3))
        (λ o.
        f.missing i l e b (λ k c p h. o (k, c, p, h))
        ∙ sym (g.missing i l e b (λ k c p h. o (k, c, p, h))))

-- so two memories in which a module stands alike agree on its areas
pub stands_unique
    : (m : Image) (laid : WellLaid m) {T U : Memory} {φ ψ : Links} {n v : ℕ} {M N : Memory} → Agree (Area m) T U → ((e : ℕ) → φ e ≡ ψ e)
    → Stands m T φ n v M → Stands m U ψ n v N → Agree (Area m) M N
stands_unique m laid {T} {U} {φ} {ψ} g e s t =
    shows_unique m laid g s.shows (rw (fun_ext e) t.shows)
