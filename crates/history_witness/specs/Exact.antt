-- Sessions whose calls gave what the definition gives (`Exact`): there the session's own calls, what came and what stands are read from
-- what the calls gave.
use Rattle.std.specs.Prelude.{if◌then◌else◌, ℕ, zero, suc, ◌≡◌, refl, List, [], ◌∷◌, ◌++◌, Bool, true, false, ◌&&◌, ◌||◌, length, eqb, ltb}
use Rattle.std.proofs.Common.{sym, ap, ◌∙◌, subst, arith, lit<, ltb-true}
use Rattle.window.specs.Memory.{byte_at}
use Rattle.window.specs.Within.{In}
use Rattle.window.specs.Tests.{both}
use Rattle.register.specs.Buffers.{Below}
use Rattle.linker_spec.specs.Calls.{number}
use Rattle.linker_spec.specs.declared.call.Call.{Call}
use Rattle.linker_spec.specs.declared.call.Call.TheVariants.{Initialize, Load, Unload}
use Rattle.linker_spec.specs.Outcome.{Buffers}
use Rattle.linker_spec.specs.Valid.{AreBytes}
use Rattle.history.specs.LoadedModule.{LoadedModule, Image, Area}
use Rattle.history.specs.WellLaid.{WellLaid}
use Rattle.history.specs.Sessions.{given, CallRecord, expected, done, unfit, own, comes, brought, loaded_modules, stay, standing, Between, Lends, Next}
use Rattle.history.specs.Outcomes.{Made, Promised}
use Rattle.history.specs.Below.{Each, Pairs}
use Rattle.history.specs.Demand3.{Harmless, InOrder, CrsFirst, AutoLinked, ImportsKept, BaseNot0, InWindow, Apart, OtherName, OtherExports, ExportsOnce, Premises, images}

-- each call gave what the definition gives
abbrev pub Exact : List CallRecord → Type 0
Exact ts = Each (λ t. expected t ≡ t.gave) ts

abbrev pub succeeds : CallRecord → Bool
succeeds t = eqb t.gave.number 0

unfoldable pub ours : List CallRecord → List CallRecord
ours [] = []
ours (t ∷ ts) = if eqb t.gave.number 3 || eqb t.gave.number 4 then ours ts else t ∷ ours ts

unfoldable pub brings : CallRecord → List LoadedModule
brings t = if succeeds t then comes t.call (byte_at t.at t.before.window) else []

unfoldable pub came : List CallRecord → List LoadedModule
came [] = []
came (t ∷ ts) = came ts ++ brings t

unfoldable pub stood : List CallRecord → List LoadedModule
stood [] = []
stood (t ∷ ts) = (if succeeds t then stay t.call (stood ts) else stood ts) ++ brings t

pub ours_are : (ts : List CallRecord) → Exact ts → own ts ≡ ours ts
unfolding own ours unfit Each number
ours_are [] h = refl
ours_are (t ∷ ts) h = rw (h.0, ours_are ts h.1) refl

brought_are : (t : CallRecord) → expected t ≡ t.gave → brought t ≡ brings t
unfolding brought brings done
brought_are t h = rw h refl

pub came_are : (ts : List CallRecord) → Exact ts → loaded_modules ts ≡ came ts
unfolding loaded_modules came Each
came_are [] h = refl
came_are (t ∷ ts) h = rw (came_are ts h.1, brought_are t h.0) refl

pub stood_are : (ts : List CallRecord) → Exact ts → standing ts ≡ stood ts
unfolding standing stood done Each
stood_are [] h = refl
stood_are (t ∷ ts) h = rw (brought_are t h.0, stood_are ts h.1, h.0) refl

-- the exported calls promise that
made_one : (t : CallRecord) → expected t ≡ t.gave → Promised t.call t.at t.before t.gave
unfolding Promised given
made_one t h = go t.call h
  where
    go : (c : Call) → given c t.at t.before ≡ t.gave → Promised c t.at t.before t.gave
    go (Initialize base size) e = sym e
    go (Load l auto level) e = sym e
    go (Unload base) e = sym e

pub promised : (ts : List CallRecord) → Exact ts → Made Promised ts
unfolding Each
promised [] h = tt
promised (t ∷ ts) h = (made_one t h.0, promised ts h.1)

-- a refused call leaves all as it was
abbrev pub Quiet : CallRecord → Type 0
Quiet t = succeeds t ≡ false → t.gave.left ≡ t.before

pub quiet : (ts : List CallRecord) → Exact ts → Each Quiet ts → Each Harmless ts
unfolding Each Harmless done
quiet [] h g = tt
quiet (t ∷ ts) h g = ((λ e. ap (λ o. o.left) h.0 ∙ g.0 (rw h.0 at e)), quiet ts h.1 g.1)

pub not_both : {X : Type 0} (b : Bool) → b ≡ true → b ≡ false → X
not_both b h e = let z : ◌≡◌ {A = ℕ} 0 1 = cc in absurd (omega arith)

-- each call that is done comes in order
unfoldable pub Ordered : List CallRecord → Type 0
Ordered [] = Unit {0}
Ordered (t ∷ ts) = (succeeds t ≡ true → InOrder t.call (came ts)) × Ordered ts

pub ordered : (ts : List CallRecord) → Exact ts → Ordered ts → CrsFirst ts
unfolding Ordered CrsFirst Each done
ordered [] h g = tt
ordered (t ∷ ts) h g = ((λ e. rw (came_are ts h.1) (g.0 (rw h.0 at e))), ordered ts h.1 g.1)

-- bytes are bytes
unfoldable pub small_all : List ℕ → Bool
small_all [] = true
small_all (b ∷ l) = ltb b 256 && small_all l

small_true : (l : List ℕ) → small_all l ≡ true → Below 256 l
unfolding small_all
small_true [] h i = lit< tt
small_true (b ∷ l) h zero = ltb-true b 256 (both (ltb b 256) (small_all l) h).0
small_true (b ∷ l) h (suc i) = small_true l (both (ltb b 256) (small_all l) h).1 i

pub are_bytes : (b : Buffers) → small_all b.window ≡ true → small_all b.records ≡ true → AreBytes b
are_bytes b w r = (small_true b.window w, small_true b.records r)

-- what the last call left
pub same-between : (at : ℕ) (ts : List CallRecord) (b : Buffers) → Between at ts b b
same-between at ts b = record { register = (refl, refl, refl); length_kept = refl; areas_kept = λ q h. refl }

-- a call on the session's own window and register, or one that is lent what breaks a rule
pub next-own
    : (at : ℕ) (t : CallRecord) (ts : List CallRecord) → Exact ts → t.at ≡ at → Lends at (ours ts) t.before → Next at ts t
unfolding Next
next-own at t ts h e l = λ u. (e, rw (ours_are ts h) l)

pub next-unfit
    : (at : ℕ) (t : CallRecord) (ts : List CallRecord) → expected t ≡ t.gave → (eqb t.gave.number 3 || eqb t.gave.number 4) ≡ true → Next at ts t
unfolding Next unfit number
next-unfit at t ts h e = λ u. not_both _ e (rw h at u)

-- the premises on the images that came
pub record Suits (S : List Image) : Type 0 where
  pub auto_linked : Each (λ m. AutoLinked m.load_call) S
  pub imports_kept : Each (λ m. ImportsKept m.load_call) S
  pub base-not_0 : Each (λ m. BaseNot0 m.load_call) S
  pub areas_apart : Pairs Apart S
  pub other-names : Pairs OtherName S
  pub other_exports : Pairs OtherExports S
  pub exports_once : Each ExportsOnce S
  pub well_laid : Each WellLaid S

-- some of the first of them
each_front : {A : Type 0} (P : A → Type 0) (l m : List A) → Each P (l ++ m) → Each P l
unfolding Each
each_front P [] m h = tt
each_front P (x ∷ l) m h = (h.0, each_front P l m h.1)

pairs-front : {A : Type 0} (R : A → A → Type 0) (l m : List A) → Pairs R (l ++ m) → Pairs R l
unfolding Pairs
pairs-front R [] m h = tt
pairs-front R (x ∷ l) m h = (each_front (R x) l m h.0, pairs-front R l m h.1)

pub front : (S T : List Image) → Suits (S ++ T) → Suits S
front S T h =
    record {
      auto_linked = each_front _ S T h.auto_linked;
      imports_kept = each_front _ S T h.imports_kept;
      base-not_0 = each_front _ S T h.base-not_0;
      areas_apart = pairs-front Apart S T h.areas_apart;
      other-names = pairs-front OtherName S T h.other-names;
      other_exports = pairs-front OtherExports S T h.other_exports;
      exports_once = each_front ExportsOnce S T h.exports_once;
      well_laid = each_front WellLaid S T h.well_laid;
    }

pub premises_of
    : (ts : List CallRecord) (S : List Image) → Exact ts → images ts ≡ S → Suits S → Each Quiet ts → Ordered ts → Each (InWindow (ours ts)) S → Premises ts
premises_of ts S e i s q o w =
    record {
      harmless = quiet ts e q;
      crs-first = ordered ts e o;
      auto_linked = rw i s.auto_linked;
      imports_kept = rw i s.imports_kept;
      base-not_0 = rw i s.base-not_0;
      in_window = rw (ours_are ts e, i) w;
      areas_apart = rw i s.areas_apart;
      other-names = rw i s.other-names;
      other_exports = rw i s.other_exports;
      exports_once = rw i s.exports_once;
      well_laid = rw i s.well_laid;
    }

-- a window of n bytes holds their areas
pub windows_of
    : (t : CallRecord) (ts : List CallRecord) (n : ℕ) (S : List Image) → length t.before.window ≡ n → Each (λ a. (q : ℕ) → Area a q → In t.at n q) S
    → Each (InWindow (t ∷ ts)) S
unfolding InWindow
windows_of t ts n S e h = subst (λ k. Each (λ a. (q : ℕ) → Area a q → In t.at k q) S) (sym e) h
