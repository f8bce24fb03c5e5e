-- Lists by index: what holds of each or of each pair, what stands among what came, and one that leaves.
use Rattle.std.specs.Prelude.{if◌then◌else◌, ℕ, zero, suc, ◌<◌, ◌≡◌, ◌≢◌, Bool, not, ◌||◌, length, get_or, eqb}
use Rattle.std.proofs.Math.Path.{refl, sym, ap}
use Rattle.std.proofs.Common.{◌∙◌, arith}
use mathlib.Core.List.{List, [], ◌∷◌, ◌++◌, map}
use Rattle.std.proofs.Math.Bool.{true, false}
use Rattle.std.proofs.Math.Decide.{ℕ_discrete}
use borrow.Author.Tests.{eq-eqb, ne_eqb}
use Rattle.history.specs.LoadedModule.{LoadedModule, base_of, is_crs}
use Rattle.linker_spec.specs.declared.call.Call.{Call}
use Rattle.linker_spec.specs.declared.call.Call.TheVariants.{Initialize, Load, Unload}
use Rattle.history.specs.Sessions.{CallRecord, done, brought, loaded_modules, others, stay, standing}
use Rattle.history.specs.Below.{Each, Pairs}
use Rattle.history.specs.Steps.Leaving.{skip, skip-low, skip-high, skip-suc}

-- of each, by index and back
pub each_at : {A : Type 0} (P : A → Type 0) (xs : List A) (d : A) → Each P xs → (k : ℕ) → k < length xs → P (get_or xs k d)
unfolding Each
each_at P [] d h k l = absurd (omega arith)
each_at P (x ∷ xs) d h zero l = h.0
each_at P (x ∷ xs) d h (suc k) l = each_at P xs d h.1 k (omega arith)

pub at_each : {A : Type 0} (P : A → Type 0) (xs : List A) (d : A) → ((k : ℕ) → k < length xs → P (get_or xs k d)) → Each P xs
unfolding Each
at_each P [] d h = tt
at_each P (x ∷ xs) d h = (h 0 (omega arith), at_each P xs d (λ k l. h (suc k) (omega arith)))

-- of each pair, by two indexes
pub pairs-at
    : {A : Type 0} (R : A → A → Type 0) (xs : List A) (d : A) → ((a b : A) → R a b → R b a) → Pairs R xs → (j k : ℕ) → j < length xs
    → k < length xs → j ≢ k → R (get_or xs j d) (get_or xs k d)
unfolding Pairs
pairs-at R [] d s h j k l g o = absurd (omega arith)
pairs-at R (x ∷ xs) d s h zero zero l g o = absurd (o refl)
pairs-at R (x ∷ xs) d s h zero (suc k) l g o = each_at (R x) xs d h.0 k (omega arith)
pairs-at R (x ∷ xs) d s h (suc j) zero l g o = s x _ (each_at (R x) xs d h.0 j (omega arith))
pairs-at R (x ∷ xs) d s h (suc j) (suc k) l g o = pairs-at R xs d s h.1 j k (omega arith) (omega arith) (λ e. o (ap suc e))

pub each_mono : {A : Type 0} (P Q : A → Type 0) (xs : List A) → ((a : A) → P a → Q a) → Each P xs → Each Q xs
unfolding Each
each_mono P Q [] f h = tt
each_mono P Q (x ∷ xs) f h = (f x h.0, each_mono P Q xs f h.1)

pub pairs-with
    : {A : Type 0} (P : A → Type 0) (R Q : A → A → Type 0) (xs : List A) → ((a b : A) → P a → P b → R a b → Q a b) → Each P xs → Pairs R xs
    → Pairs Q xs
unfolding Each Pairs
pairs-with P R Q [] f g h = tt
pairs-with P R Q (x ∷ xs) f g h = (both xs g.1 h.0, pairs-with P R Q xs f g.1 h.1)
  where
    both : (ys : List _) → Each P ys → Each (R x) ys → Each (Q x) ys
    both [] a b = tt
    both (y ∷ ys) a b = (f x y g.0 a.0 b.0, both ys a.1 b.1)

-- of two lists in a row
pub each_append : {A : Type 0} (P : A → Type 0) (xs ys : List A) → Each P xs → Each P ys → Each P (xs ++ ys)
unfolding Each
each_append P [] ys h g = g
each_append P (x ∷ xs) ys h g = (h.0, each_append P xs ys h.1 g)

pub each_left : {A : Type 0} (P : A → Type 0) (xs ys : List A) → Each P (xs ++ ys) → Each P xs
unfolding Each
each_left P [] ys h = tt
each_left P (x ∷ xs) ys h = (h.0, each_left P xs ys h.1)

pub each_right : {A : Type 0} (P : A → Type 0) (xs ys : List A) → Each P (xs ++ ys) → Each P ys
unfolding Each
each_right P [] ys h = h
each_right P (x ∷ xs) ys h = each_right P xs ys h.1

pub pairs-append
    : {A : Type 0} (R : A → A → Type 0) (xs ys : List A) → Pairs R xs → Pairs R ys → Each (λ x. Each (R x) ys) xs → Pairs R (xs ++ ys)
unfolding Pairs Each
pairs-append R [] ys h g c = g
pairs-append R (x ∷ xs) ys h g c = (each_append (R x) xs ys h.0 c.0, pairs-append R xs ys h.1 g c.1)

pub pairs-left : {A : Type 0} (R : A → A → Type 0) (xs ys : List A) → Pairs R (xs ++ ys) → Pairs R xs
unfolding Pairs
pairs-left R [] ys h = tt
pairs-left R (x ∷ xs) ys h = (each_left (R x) xs ys h.0, pairs-left R xs ys h.1)

-- of what a list's elements give
pub each_map : {A B : Type 0} (f : A → B) (P : B → Type 0) (xs : List A) → Each P (map f xs) → Each (λ a. P (f a)) xs
unfolding Each
each_map f P [] h = tt
each_map f P (x ∷ xs) h = (h.0, each_map f P xs h.1)

pub map_each : {A B : Type 0} (f : A → B) (P : B → Type 0) (xs : List A) → Each (λ a. P (f a)) xs → Each P (map f xs)
unfolding Each
map_each f P [] h = tt
map_each f P (x ∷ xs) h = (h.0, map_each f P xs h.1)

pub pairs-map : {A B : Type 0} (f : A → B) (R : B → B → Type 0) (xs : List A) → Pairs R (map f xs) → Pairs (λ a b. R (f a) (f b)) xs
unfolding Pairs
pairs-map f R [] h = tt
pairs-map f R (x ∷ xs) h = (each_map f (R (f x)) xs h.0, pairs-map f R xs h.1)

pub map-pairs : {A B : Type 0} (f : A → B) (R : B → B → Type 0) (xs : List A) → Pairs (λ a b. R (f a) (f b)) xs → Pairs R (map f xs)
unfolding Pairs
map-pairs f R [] h = tt
map-pairs f R (x ∷ xs) h = (map_each f (R (f x)) xs h.0, map-pairs f R xs h.1)

-- a list without some of its elements
pub data Sublist {A : Type 0} : List A → List A → Type 0 where
  nothing : Sublist [] []
  keeps : (a : A) (xs ys : List A) → Sublist xs ys → Sublist (a ∷ xs) (a ∷ ys)
  drops : (a : A) (xs ys : List A) → Sublist xs ys → Sublist xs (a ∷ ys)

pub among_same : {A : Type 0} (xs : List A) → Sublist xs xs
among_same [] = nothing
among_same (x ∷ xs) = keeps x xs xs (among_same xs)

pub among-left : {A : Type 0} (xs ys : List A) → Sublist xs (xs ++ ys)
among-left [] [] = nothing
among-left [] (y ∷ ys) = drops y [] ys (among-left [] ys)
among-left (x ∷ xs) ys = keeps x xs (xs ++ ys) (among-left xs ys)

pub among-append : {A : Type 0} (xs ys zs : List A) → Sublist xs ys → Sublist (xs ++ zs) (ys ++ zs)
among-append xs ys zs nothing = among_same zs
among-append xs ys zs (keeps a us vs h) = keeps a (us ++ zs) (vs ++ zs) (among-append us vs zs h)
among-append xs ys zs (drops a us vs h) = drops a (us ++ zs) (vs ++ zs) (among-append us vs zs h)

pub among_each : {A : Type 0} (P : A → Type 0) (xs ys : List A) → Sublist xs ys → Each P ys → Each P xs
unfolding Each
among_each P xs ys nothing h = tt
among_each P xs ys (keeps a us vs g) h = (h.0, among_each P us vs g h.1)
among_each P xs ys (drops a us vs g) h = among_each P us vs g h.1

pub among-pairs : {A : Type 0} (R : A → A → Type 0) (xs ys : List A) → Sublist xs ys → Pairs R ys → Pairs R xs
unfolding Pairs
among-pairs R xs ys nothing h = tt
among-pairs R xs ys (keeps a us vs g) h = (among_each (R a) us vs g h.0, among-pairs R us vs g h.1)
among-pairs R xs ys (drops a us vs g) h = among-pairs R us vs g h.1

pub among_trans : {A : Type 0} (xs ys zs : List A) → Sublist xs ys → Sublist ys zs → Sublist xs zs
among_trans xs ys zs h nothing = h
among_trans xs ys zs h (drops a us vs g) = drops a xs vs (among_trans xs us vs h g)
among_trans xs ys zs (keeps b ss ts h) (keeps a us vs g) = keeps a ss vs (among_trans ss us vs h g)
among_trans xs ys zs (drops b ss ts h) (keeps a us vs g) = drops a xs vs (among_trans xs us vs h g)

-- what stands is among what came
pub others-among : (base : ℕ) (S : List LoadedModule) → Sublist (others base S) S
unfolding others
others-among base [] = nothing
others-among base (a ∷ S) = go (is_crs a.load_call || not (eqb (base_of a.load_call) base)) (others-among base S)
  where
    go : (b : Bool) → Sublist (others base S) S → Sublist (if b then a ∷ others base S else others base S) (a ∷ S)
    go true h = keeps a (others base S) S h
    go false h = drops a (others base S) S h

stay-among : (c : Call) (S : List LoadedModule) → Sublist (stay c S) S
unfolding stay
stay-among (Initialize base size) S = among_same S
stay-among (Load l auto level) S = among_same S
stay-among (Unload base) S = others-among base S

pub standing-among : (ts : List CallRecord) → Sublist (standing ts) (loaded_modules ts)
unfolding standing loaded_modules
standing-among [] = nothing
standing-among (t ∷ ts) =
    among-append (if done t then stay t.call (standing ts) else standing ts) (loaded_modules ts) (brought t)
    (go (done t) (standing-among ts))
  where
    go
        : (b : Bool) → Sublist (standing ts) (loaded_modules ts)
        → Sublist (if b then stay t.call (standing ts) else standing ts) (loaded_modules ts)
    go true h = among_trans (stay t.call (standing ts)) (standing ts) (loaded_modules ts) (stay-among t.call (standing ts)) h
    go false h = h

-- a list without its element number d
unfoldable pub lacking : {A : Type 0} → List A → ℕ → List A
lacking [] d = []
lacking (x ∷ xs) zero = xs
lacking (x ∷ xs) (suc d) = x ∷ lacking xs d

pub lacking-at : {A : Type 0} (xs : List A) (d : ℕ) (e : A) (i : ℕ) → get_or (lacking xs d) i e ≡ get_or xs (skip d i) e
unfolding lacking
lacking-at [] d e i = refl
lacking-at (x ∷ xs) zero e i = rw (skip-high zero i (omega arith)) refl
lacking-at (x ∷ xs) (suc d) e zero = rw (skip-low (suc d) zero (omega arith)) refl
lacking-at (x ∷ xs) (suc d) e (suc i) = rw (skip-suc d i) (lacking-at xs d e i)

pub lacking-length : {A : Type 0} (xs : List A) (d : ℕ) → d < length xs → suc (length (lacking xs d)) ≡ length xs
unfolding lacking
lacking-length [] d l = absurd (omega arith)
lacking-length (x ∷ xs) zero l = refl
lacking-length (x ∷ xs) (suc d) l = ap suc (lacking-length xs d (omega arith))

-- no two with one base
abbrev pub OtherBase : LoadedModule → LoadedModule → Type 0
OtherBase a b = base_of a.load_call ≢ base_of b.load_call

-- a base's module leaves, number d, or none has it; the CRS has another one
pub data Leaver (base : ℕ) (S : List LoadedModule) : Type 0 where
  leaves
      : (d : ℕ) → d < length S → ((e : LoadedModule) → base_of (get_or S d e).load_call ≡ base) → ((e : LoadedModule) → is_crs (get_or S d e).load_call ≡ false)
      → others base S ≡ lacking S d → Leaver base S
  stays : Each (λ a. base_of a.load_call ≢ base) S → others base S ≡ S → Leaver base S

module _ (base : ℕ) where
  -- none has the base
  whole : (S : List LoadedModule) → Each (λ a. base_of a.load_call ≢ base) S → others base S ≡ S
  unfolding others Each
  whole [] h = refl
  whole (a ∷ S) h = rw (ne_eqb (base_of a.load_call) base h.0) (go (is_crs a.load_call) (whole S h.1))
    where
      go : (b : Bool) → others base S ≡ S → (if b || true then a ∷ others base S else others base S) ≡ a ∷ S
      go true q = ap (λ T. a ∷ T) q
      go false q = ap (λ T. a ∷ T) q

  pub leaver
      : (S : List LoadedModule) → Pairs OtherBase S → Each (λ a. is_crs a.load_call ≡ true → base_of a.load_call ≢ base) S → Leaver base S
  unfolding others Each Pairs lacking
  leaver [] h c = stays tt refl
  leaver (a ∷ S) h c = go (ℕ_discrete (base_of a.load_call) base) (is_crs a.load_call) refl (leaver S h.1 c.1)
    where
      go : Dec (base_of a.load_call ≡ base) → (b : Bool) → is_crs a.load_call ≡ b → Leaver base S → Leaver base (a ∷ S)
      go (yes e) true i r = absurd (c.0 i e)
      go (yes e) false i r =
          leaves 0 (omega arith) (λ _. e) (λ _. i)
          (rw (i, eq-eqb (base_of a.load_call) base e)
          (whole S (each_mono (OtherBase a) (λ b. base_of b.load_call ≢ base) S (λ b n z. n (e ∙ sym z)) h.0)))
      go (no o) b i (stays n q) = stays (o, n) (whole (a ∷ S) (o, n))
      go (no o) b i (leaves d l e f q) =
          leaves (suc d) (omega arith) e f (rw (ne_eqb (base_of a.load_call) base o) (kept (is_crs a.load_call) q))
        where
          kept
              : (b : Bool) → others base S ≡ lacking S d
              → (if b || true then a ∷ others base S else others base S) ≡ a ∷ lacking S d
          kept true q = ap (λ T. a ∷ T) q
          kept false q = ap (λ T. a ∷ T) q
