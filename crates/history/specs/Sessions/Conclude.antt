-- From modules that stand with their links at rest to the clauses of demand 3.
use Rattle.std.specs.Prelude.{ℕ, zero, suc, ◌+◌, ◌<◌, ◌≡◌, refl, List, [], ◌∷◌, map, length, get_or}
use Rattle.std.proofs.Common.{sym, ap, ◌∙◌, subst, inl, arith, lt-ltb, le-ltb}
use Rattle.std.proofs.Math.Path.{fun_ext}
use Rattle.std.proofs.Math.Decide.{dec_lt}
use Rattle.window.specs.Within.{Agree}
use Rattle.register.specs.Module.{Register}
use Rattle.history.specs.LoadedModule.{Image, LoadedModule, cut, image_of, base_of, size_of, is_crs, Area}
use Rattle.history.specs.Imports.{Import, Exports, Exporter, Holds}
use Rattle.history.specs.WellLaid.{WellLaid}
use Rattle.history.specs.Sessions.{CallRecord, standing}
use Rattle.history.specs.Below.{Each}
use Rattle.history.specs.Demand3.{ImportClause, CrsClause, SameStanding, AllHold, NoByteDiffers, bytes_after}
use Rattle.history.specs.Steps.Wp.{Memory}
use Rattle.history.specs.Steps.AllModulesShow.{Modules}
use Rattle.history.specs.Steps.Conclusions.{holds_exporter, holds-handler, resolved_unique, stands_unique}
use Rattle.history.specs.Calls.LinkedState.{AtRest}
use Rattle.history.specs.Sessions.Lists.{each_at, at_each, each_map, map_each}
use Rattle.history.specs.Sessions.Unique.{no_module, image_at}

-- n modules by number, as `AtRest` takes them
abbrev modules_by : ℕ → (ℕ → Image) → (ℕ → Memory) → Modules
modules_by n x rest = record { number = n; image = x; rest = rest }

-- they determine the bytes
pub resting_unique
    : (n : ℕ) (x : ℕ → Image) (rest other : ℕ → Memory) {r s : Register} (M N : Memory) → ((k : ℕ) → k < n → WellLaid (x k))
    → ((k : ℕ) → k < n → Agree (Area (x k)) (rest k) (other k)) → AtRest (modules_by n x rest) r M → AtRest (modules_by n x other) s N → (k : ℕ) → k < n
    → Agree (Area (x k)) M N
resting_unique n x rest other M N laid g h i k l =
    let a = h.linked_state in
    let b = i.linked_state in
    let e : i.next k ≡ h.next k = b.listed.nexts k l ∙ sym (a.listed.nexts k l) in
    let f : i.previous k ≡ h.previous k = b.listed.previouses k l ∙ sym (a.listed.previouses k l) in
    stands_unique (x k) (laid k l) (g k l) (resolved_unique n x (x k) (a.links k l) (b.links k l)) (a.modules_show.stands k l)
    (rw (e, f) at (b.modules_show.stands k l))

-- the two clauses about imports
module _ (S : List LoadedModule) (rest : ℕ → Memory) {r : Register} (M : Memory) (h : AtRest (modules_by (length S) (image_at S) rest) r M)
    (once
    : (k : ℕ) → k < length S → (i : Import) (j l p q : ℕ) → j < length S → l < length S → Exports (image_at S j) (image_at S k) i p
    → Exports (image_at S l) (image_at S k) i q → j ≡ l) where
  import_clause : (k : ℕ) → k < length S → ImportClause (map image_of S) M (image_at S k)
  unfolding ImportClause
  import_clause k l i c = (
    map_each image_of (λ x. (p : ℕ) → Exporter x (image_at S k) i p → Holds M (image_at S k) i p) S
        (at_each (λ a. (p : ℕ) → Exporter (image_of a) (image_at S k) i p → Holds M (image_at S k) i p) S no_module
        (λ j g p e. holds_exporter (image_at S k) (h.linked_state.modules_show.stands k l) (length S) (image_at S) (h.linked_state.links k l) i c j g p e)),
    λ o.
        holds-handler (image_at S k) (h.linked_state.modules_show.stands k l) (length S) (image_at S) (h.linked_state.links k l) i c
        (λ j g p e.
        each_at (λ a. (p : ℕ) → Exporter (image_of a) (image_at S k) i p → ⊥) S no_module
        (each_map image_of (λ x. (p : ℕ) → Exporter x (image_at S k) i p → ⊥) S o) j g p e),
  )

  -- what the CRS exports to itself nobody else does
  crs_clause : (k : ℕ) → k < length S → CrsClause M (image_at S k)
  unfolding CrsClause Exporter
  crs_clause k l c i m p e =
      holds-handler (image_at S k) (h.linked_state.modules_show.stands k l) (length S) (image_at S) (h.linked_state.links k l) i m
      (λ j g q x. x.1 c (ap (λ n. is_crs (image_at S n).load_call) (once k l i j k q p g l x.0 e) ∙ c))

  pub all_hold : AllHold (map image_of S) M
  unfolding AllHold
  all_hold =
      map_each image_of (λ m. ImportClause (map image_of S) M m × CrsClause M m) S
      (at_each (λ a. ImportClause (map image_of S) M (image_of a) × CrsClause M (image_of a)) S no_module
      (λ k l. (import_clause k l, crs_clause k l)))

-- images that came alike are the same
pub same_image : (a b : LoadedModule) → a.load_call ≡ b.load_call → Agree (Area (image_of a)) a.bytes b.bytes → image_of a ≡ image_of b
unfolding Area cut
same_image a b e g =
    ap {B = Image} (λ f. record { load_call = a.load_call; file = f }) (fun_ext (λ o. go o (dec_lt o (size_of a.load_call))))
    ∙ ap {B = Image} (λ c. record { load_call = c; file = cut c b.bytes }) e
  where
    go : (o : ℕ) → Dec (o < size_of a.load_call) → cut a.load_call a.bytes o ≡ cut a.load_call b.bytes o
    go o (yes l) = rw (lt-ltb o (size_of a.load_call) l) (g (base_of a.load_call + o) (inl (omega arith, omega arith)))
    go o (no l) = rw (le-ltb o (size_of a.load_call) (omega arith)) refl

pub same_count : (S T : List LoadedModule) → SameStanding S T → length S ≡ length T
unfolding SameStanding
same_count [] [] h = refl
same_count (a ∷ S) (b ∷ T) h = ap suc (same_count S T h.2)
same_count [] (b ∷ T) h = absurd h
same_count (a ∷ S) [] h = absurd h

pub same_loaded
    : (S T : List LoadedModule) → SameStanding S T → (k : ℕ) → k < length S
    → ((get_or S k no_module).load_call ≡ (get_or T k no_module).load_call)
    × Agree (Area (image_at S k)) (get_or S k no_module).bytes (get_or T k no_module).bytes
unfolding SameStanding
same_loaded [] [] h k l = absurd (omega arith)
same_loaded (a ∷ S) (b ∷ T) h zero l = (h.0, h.1)
same_loaded (a ∷ S) (b ∷ T) h (suc k) l = same_loaded S T h.2 k (omega arith)
same_loaded [] (b ∷ T) h k l = absurd h
same_loaded (a ∷ S) [] h k l = absurd h

-- at every number, past the end too
pub same-images : (S T : List LoadedModule) → SameStanding S T → (k : ℕ) → image_at S k ≡ image_at T k
unfolding SameStanding
same-images [] [] h k = refl
same-images (a ∷ S) (b ∷ T) h zero = same_image a b h.0 h.1
same-images (a ∷ S) (b ∷ T) h (suc k) = same-images S T h.2 k
same-images [] (b ∷ T) h k = absurd h
same-images (a ∷ S) [] h k = absurd h

-- two lists that came alike, each at rest in its own memory: no byte of their areas differs
module _ (S T : List LoadedModule) (same : SameStanding S T) (rest other : ℕ → Memory) {r s : Register} (M N : Memory)
    (laid : (k : ℕ) → k < length S → WellLaid (image_at S k)) (alike : (k : ℕ) → k < length S → Agree (Area (image_at S k)) (rest k) (other k))
    (h : AtRest (modules_by (length S) (image_at S) rest) r M) (i : AtRest (modules_by (length T) (image_at T) other) s N) where
  moved : AtRest (modules_by (length S) (image_at S) other) s N
  moved =
      subst (λ n. AtRest (modules_by n (image_at S) other) s N) (sym (same_count S T same))
      (subst (λ x. AtRest (modules_by (length T) x other) s N) (sym (fun_ext (same-images S T same))) i)

  pub no_byte : Each (λ a. Agree (Area (image_of a)) M N) S
  no_byte =
      at_each (λ a. Agree (Area (image_of a)) M N) S no_module
      (λ k l. resting_unique (length S) (image_at S) rest other M N laid alike h moved k l)

-- as demand 3 says it
pub no_byte_differs
    : (ts us : List CallRecord) (rest other : ℕ → Memory) (r s : Register) → ((k : ℕ) → k < length (standing ts) → WellLaid (image_at (standing ts) k))
    → ((k : ℕ) → k < length (standing ts) → Agree (Area (image_at (standing ts) k)) (rest k) (other k))
    → AtRest (modules_by (length (standing ts)) (image_at (standing ts)) rest) r (bytes_after ts)
    → AtRest (modules_by (length (standing us)) (image_at (standing us)) other) s (bytes_after us)
    → SameStanding (standing ts) (standing us) → NoByteDiffers ts us
unfolding NoByteDiffers
no_byte_differs ts us rest other r s laid alike h i same =
    no_byte (standing ts) (standing us) same rest other (bytes_after ts) (bytes_after us) laid alike h i
