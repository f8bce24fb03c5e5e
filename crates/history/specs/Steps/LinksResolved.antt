-- The links at rest: each import of a module has its exporter's address if one of those that stand is its exporter, else none.
use Prim.Native.Nat.{ℕ, suc, pred, ◌<◌}
use Rattle.std.specs.Prelude.{◌≡◌, refl, List, true, Option, Some, None}
use Rattle.std.proofs.Math.Path.{sym, ap}
use Rattle.std.proofs.Common.{◌∙◌, arith}
use Rattle.std.proofs.Math.Decide.{dec_lt, ℕ_discrete}
use Rattle.window.specs.Mirror.{word}
use Rattle.linker_spec.specs.Resets.{exists}
use Rattle.history.specs.Image.{module_entries, entry, name_of, module_name}
use Rattle.history.specs.LoadedModule.{Image, is_crs}
use Rattle.history.specs.Imports.{Import, named, indexed, anonymous, IsImport, From, Exports, Exporter}
use Rattle.history.specs.WellLaid.{WellLaid}
use Rattle.history.specs.Steps.Links.{Links, symbol_for, mark_for}
use Rattle.history.specs.Steps.Changes.{Change}
use Rattle.history.specs.Steps.OneImport.{link_to}
use Rattle.history.specs.Steps.Records.{export_for, ImportsFrom}
use Rattle.history.specs.Steps.Runs.{Begins, Linking}
use Rattle.history.specs.Steps.Asking.{true_false}
use Rattle.history.specs.Steps.Serving.{Served}
use Rattle.history.specs.Steps.Leaving.{skip, skip-low, skip-not, skip_below, skip-back}
use Rattle.history.specs.Steps.Resetting.{Drops, Dropped}

-- n modules stand, x k being number k
pub record LinksResolved (n : ℕ) (x : ℕ → Image) (m : Image) (φ : Links) : Type 0 where
  pub found
      : (i : Import) → IsImport m.file i → (e : ℕ) → Begins m.file i e → (k : ℕ) → k < n → (p : ℕ) → Exporter (x k) m i p → φ e ≡ Some p
  pub missing
      : (i : Import) → IsImport m.file i → (e : ℕ) → Begins m.file i e → ((k : ℕ) → k < n → (p : ℕ) → Exporter (x k) m i p → ⊥) → φ e ≡ None
  pub others : (e : ℕ) → ((i : Import) → IsImport m.file i → Begins m.file i e → ⊥) → φ e ≡ None

-- exporting is asking and having the symbol
pub exports_offers : (x m : Image) (i : Import) (p : ℕ) → Exports x m i p → ImportsFrom x m i × (export_for x m i ≡ Some p)
unfolding Exports ImportsFrom export_for
exports_offers x m (named i) p h = (tt, h)
exports_offers x m (indexed i) p h = (h.0, h.1)
exports_offers x m (anonymous i) p h = (h.0, h.1)

pub offers_exports : (x m : Image) (i : Import) (p : ℕ) → ImportsFrom x m i → export_for x m i ≡ Some p → Exports x m i p
unfolding Exports ImportsFrom export_for
offers_exports x m (named i) p a h = h
offers_exports x m (indexed i) p a h = (a, h)
offers_exports x m (anonymous i) p a h = (a, h)

-- a symbol offered, or none
data Offered (x m : Image) (i : Import) : Type 0 where
  at : (p : ℕ) → export_for x m i ≡ Some p → Offered x m i
  nothing : export_for x m i ≡ None → Offered x m i

offered : (x m : Image) (i : Import) → Offered x m i
offered x m i = go (export_for x m i) refl
  where
    go : (s : Option ℕ) → export_for x m i ≡ s → Offered x m i
    go (Some p) e = at p e
    go None e = nothing e

-- two links are the same or not, so a case that cannot be tested may be assumed either way
discrete : (x y : Option ℕ) → Dec (x ≡ y)
unfolding symbol_for mark_for
discrete (Some a) (Some b) = elim (ℕ_discrete a b) [ yes e ↦ yes (ap Some e) | no d ↦ no (λ e. d (ap (symbol_for 0) e)) ]
discrete (Some a) None = no (λ e. absurd (omega (arith, ap mark_for e)))
discrete None (Some b) = no (λ e. absurd (omega (arith, ap mark_for e)))
discrete None None = yes refl

pub either : (P : Type 0) (x y : Option ℕ) → (P → x ≡ y) → ((P → ⊥) → x ≡ y) → x ≡ y
either P x y f g = elim (discrete x y) [ yes e ↦ e | no d ↦ g (λ p. d (f p)) ]

-- one module more, number n, serves m: what was missing may be found now. Only one of those that stand exports to an import.
module _ (n : ℕ) (x : ℕ → Image) (m : Image) (laid : WellLaid m)
    (once : (i : Import) (j k p q : ℕ) → j < suc n → k < suc n → Exports (x j) m i p → Exports (x k) m i q → j ≡ k)
    (crs : is_crs m.load_call ≡ true → is_crs (x n).load_call ≡ true → ⊥) where
  pub served
      : {φ ψ : Links} → LinksResolved n x m φ → Change (Served (x n) m) (Linking m.file (export_for (x n) m)) φ ψ → LinksResolved (suc n) x m ψ
  unfolding Exporter link_to
  served {φ} {ψ} f c =
      record {
        found = λ i l e b k g p h. now i l e b k p h (ℕ_discrete k n) g;
        missing =
            λ i l e b o.
            let z : φ e ≡ None = f.missing i l e b (λ k g. o k (omega arith)) in
            either (Served (x n) m e) (ψ e) None (λ s. c.changed e s i l b ∙ ap (λ y. link_to y (export_for (x n) m i)) z ∙ no_offer i l e b s o)
            (λ s. c.same e s ∙ z);
        others = λ e o. c.same e (λ s. o s.0 s.1 s.3) ∙ f.others e o;
      }
    where
      now
          : (i : Import) → IsImport m.file i → (e : ℕ) → Begins m.file i e → (k p : ℕ) → Exporter (x k) m i p → Dec (k ≡ n) → k < suc n
          → ψ e ≡ Some p
      now i l e b k p h (no d) g =
          let z : φ e ≡ Some p = f.found i l e b k (omega arith) p h in
          either (Served (x n) m e) (ψ e) (Some p) (λ s. c.changed e s i l b ∙ ap (λ y. link_to y (export_for (x n) m i)) z) (λ s. c.same e s ∙ z)
      now i l e b k p h (yes d) g =
          let h₁ : Exports (x n) m i p = rw d at h.0 in
          let o = exports_offers (x n) m i p h₁ in
          let z : φ e ≡ None =
          f.missing i l e b (λ j q r t. absurd (omega (arith, once i j n r p (omega arith) (omega arith) t.0 h₁))) in
          c.changed e (i, l, o.0, b) i l b ∙ ap (λ y. link_to y (export_for (x n) m i)) z ∙ ap (link_to None) o.1

      no_offer
          : (i : Import) → IsImport m.file i → (e : ℕ) → Begins m.file i e → Served (x n) m e
          → ((k : ℕ) → k < suc n → (p : ℕ) → Exporter (x k) m i p → ⊥) → link_to None (export_for (x n) m i) ≡ None
      no_offer i l e (b) (j, l', a, b') o = go (offered (x n) m i)
        where
          asks : ImportsFrom (x n) m i
          asks = rw (laid.alone.own-batch j i l' l (b' ∙ sym b)) at a

          go : Offered (x n) m i → link_to None (export_for (x n) m i) ≡ None
          go (at p z) = absurd (o n (omega arith) p (offers_exports (x n) m i p asks z, crs))
          go (nothing z) = ap (link_to None) z

-- an import comes from one name
pub same_name
    : (m : Image) → WellLaid m → (i : Import) → IsImport m.file i → (a c : List ℕ) → From m.file i a → From m.file i c → a ≡ c
unfolding From
same_name m laid i l a c h r =
    h.3
    ∙ ap (λ j. name_of m.file (word m.file (entry m.file module_entries j)))
    (laid.alone.one-run i l h.0 r.0 h.1 r.1 h.2 r.2)
    ∙ sym r.3

-- number d leaves: what it served is missing now, the rest stays. No two modules have one name.
module _ (n d : ℕ) (below : d < n) (x : ℕ → Image) (m : Image) (laid : WellLaid m)
    (once : (i : Import) (j k p q : ℕ) → j < n → k < n → Exports (x j) m i p → Exports (x k) m i q → j ≡ k)
    (names : (j k : ℕ) → j < n → k < n → module_name (x j).file ≡ module_name (x k).file → j ≡ k) where
  -- an import that another module serves is not dropped
  kept : (i : Import) → IsImport m.file i → (k p : ℕ) → k < n → Exports (x k) m i p → Drops (x d) m i → k ≡ d
  unfolding Exports Drops ImportsFrom
  kept (named i) l k p g h r = go (offered (x d) m (named i))
    where
      go : Offered (x d) m (named i) → k ≡ d
      go (at q z) = once (named i) k d p q g below h (offers_exports (x d) m (named i) q tt z)
      go (nothing z) = absurd (true_false (sym r ∙ ap exists z))
  kept (indexed i) l k p g h r = names k d g below (same_name m laid (indexed i) l _ _ h.0 r)
  kept (anonymous i) l k p g h r = names k d g below (same_name m laid (anonymous i) l _ _ h.0 r)

  -- and one that d serves is
  drops : (i : Import) (p : ℕ) → Exports (x d) m i p → Drops (x d) m i
  unfolding Drops ImportsFrom Exports
  drops (named i) p h = ap exists (exports_offers (x d) m (named i) p h).1
  drops (indexed i) p h = h.0
  drops (anonymous i) p h = h.0

  pub dropped
      : {φ ψ : Links} → LinksResolved n x m φ → Change (Dropped (x d) m) (λ e y z. z ≡ None) φ ψ → LinksResolved (pred n) (λ k. x (skip d k)) m ψ
  unfolding Exporter
  dropped {φ} {ψ} f c =
      record {
        found =
            λ i l e b k g p h.
            c.same e (λ r. skip-not d k (kept i l (skip d k) p (skip_below n d k below g) h.0
            (rw (laid.alone.own-batch r.0 i r.1 l (r.3 ∙ sym b)) at r.2)))
            ∙ f.found i l e b (skip d k) (skip_below n d k below g) p h;
        missing =
            λ i l e b o.
            either (Dropped (x d) m e) (ψ e) None (λ r. c.changed e r)
            (λ r. c.same e r ∙ f.missing i l e b (λ k g p h. other i l e b r o k g p h (ℕ_discrete k d)));
        others = λ e o. c.same e (λ r. o r.0 r.1 r.3) ∙ f.others e o;
      }
    where
      other
          : (i : Import) → IsImport m.file i → (e : ℕ) → Begins m.file i e → (Dropped (x d) m e → ⊥)
          → ((k : ℕ) → k < pred n → (p : ℕ) → Exporter (x (skip d k)) m i p → ⊥) → (k : ℕ) → k < n → (p : ℕ) → Exporter (x k) m i p → Dec (k ≡ d) → ⊥
      other i l e b r o k g p h (yes z) = r (i, l, drops i p (rw z at h.0), b)
      other i l e b r o k g p h (no z) =
          elim (dec_lt k d) [
            | yes q ↦ o k (omega arith) p (rw (skip-low d k q) h)
            | no q ↦ o (pred k) (omega arith) p (rw (skip-back d k (omega arith)) h)
          ]
