-- Of modules among those that came: each is well laid and apart from the others, and only one of them exports to an import.
use Rattle.std.specs.Prelude.{ℕ, ◌+◌, ◌<◌, ◌≡◌, ◌≢◌, List, map, length, get_or}
use Rattle.std.proofs.Common.{sym, arith}
use Rattle.std.proofs.Math.Decide.{ℕ_discrete}
use Rattle.history.specs.Image.{module_name}
use Rattle.history.specs.LoadedModule.{initialized, Image, LoadedModule, image_of, base_of, Area}
use Rattle.history.specs.Imports.{Import, Exports}
use Rattle.history.specs.WellLaid.{WellLaid}
use Rattle.history.specs.Sessions.{CallRecord, own, loaded_modules}
use Rattle.history.specs.Below.{Each, Pairs}
use Rattle.history.specs.Demand3.{AutoLinked, ImportsKept, BaseNot0, Apart, OtherName, OtherExports, InWindow, Premises}
use Rattle.history.specs.Steps.Once.{once}
use Rattle.history.specs.Steps.Parts.{image_area}
use Rattle.history.specs.Sessions.Lists.{each_at, pairs-at, each_map, pairs-map, pairs-with, Sublist, among_each, among-pairs, OtherBase}

-- equal if not different
same_if : (j k : ℕ) → (j ≢ k → ⊥) → j ≡ k
same_if j k f = elim (ℕ_discrete j k) [ yes e ↦ e | no o ↦ absurd (f o) ]

-- past the end of the list
abbrev pub no_module : LoadedModule
no_module = record { load_call = initialized 0 0; bytes = λ q. 0 }

-- module number k of the list
abbrev pub image_at : List LoadedModule → ℕ → Image
image_at S k = image_of (get_or S k no_module)

module _ (ts : List CallRecord) (h : Premises ts) (S : List LoadedModule) (among : Sublist S (loaded_modules ts)) where
  each_of : (P : Image → Type 0) → Each P (map image_of (loaded_modules ts)) → Each (λ a. P (image_of a)) S
  each_of P g = among_each (λ a. P (image_of a)) S (loaded_modules ts) among (each_map image_of P (loaded_modules ts) g)

  pairs_of_lem : (R : Image → Image → Type 0) → Pairs R (map image_of (loaded_modules ts)) → Pairs (λ a b. R (image_of a) (image_of b)) S
  pairs_of_lem R g = among-pairs (λ a b. R (image_of a) (image_of b)) S (loaded_modules ts) among (pairs-map image_of R (loaded_modules ts) g)

  pub laid-at : (k : ℕ) → k < length S → WellLaid (image_at S k)
  laid-at k l = each_at (λ a. WellLaid (image_of a)) S no_module (each_of WellLaid h.well_laid) k l

  pub auto_at : (k : ℕ) → k < length S → AutoLinked (image_at S k).load_call
  auto_at k l = each_at (λ a. AutoLinked a.load_call) S no_module (each_of (λ m. AutoLinked m.load_call) h.auto_linked) k l

  pub kept_at : (k : ℕ) → k < length S → ImportsKept (image_at S k).load_call
  kept_at k l = each_at (λ a. ImportsKept a.load_call) S no_module (each_of (λ m. ImportsKept m.load_call) h.imports_kept) k l

  pub base-at : (k : ℕ) → k < length S → BaseNot0 (image_at S k).load_call
  base-at k l = each_at (λ a. BaseNot0 a.load_call) S no_module (each_of (λ m. BaseNot0 m.load_call) h.base-not_0) k l

  pub inside-at : (k : ℕ) → k < length S → InWindow (own ts) (image_at S k)
  inside-at k l = each_at (λ a. InWindow (own ts) (image_of a)) S no_module (each_of (InWindow (own ts)) h.in_window) k l

  pub apart-at : (j k q : ℕ) → j < length S → k < length S → j ≢ k → Area (image_at S j) q → Area (image_at S k) q → ⊥
  unfolding Apart
  apart-at j k q l g o a b =
      pairs-at (λ a b. Apart (image_of a) (image_of b)) S no_module (λ a b f q x y. f q y x) (pairs_of_lem Apart h.areas_apart) j k l g o q a b

  -- so no two have one base
  pub other_bases : Pairs OtherBase S
  unfolding Apart
  other_bases =
      pairs-with (λ a. WellLaid (image_of a)) (λ a b. Apart (image_of a) (image_of b)) OtherBase S
      (λ a b x y f e.
      f (base_of a.load_call + 0) (image_area (image_of a) x 0 (omega (arith, x.alone.header-inside)))
      (rw e (image_area (image_of b) y 0 (omega (arith, y.alone.header-inside)))))
      (each_of WellLaid h.well_laid) (pairs_of_lem Apart h.areas_apart)

  pub names_at : (j k : ℕ) → j < length S → k < length S → module_name (image_at S j).file ≡ module_name (image_at S k).file → j ≡ k
  unfolding OtherName
  names_at j k l g e =
      same_if j k
      (λ o. pairs-at (λ a b. OtherName (image_of a) (image_of b)) S no_module (λ a b f z. f (sym z)) (pairs_of_lem OtherName h.other-names) j k l g o e)

  pub exports_at : (j k : ℕ) → j < length S → k < length S → j ≢ k → OtherExports (image_at S j) (image_at S k)
  unfolding OtherExports
  exports_at j k l g o =
      pairs-at (λ a b. OtherExports (image_of a) (image_of b)) S no_module (λ a b f n p q x y. f n q p y x)
      (pairs_of_lem OtherExports h.other_exports) j k l g o

  -- only one exports to an import of a well-laid module
  pub once_at
      : (m : Image) → WellLaid m → (i : Import) (j k p q : ℕ) → j < length S → k < length S → Exports (image_at S j) m i p
      → Exports (image_at S k) m i q → j ≡ k
  once_at m laid = once m laid (length S) (image_at S) names_at exports_at
