-- Between calls: the modules stand and are listed, their links are at rest, and the register has their records.
use Rattle.std.specs.Prelude.{ℕ, zero, suc, pred, ◌<◌, ◌≡◌, refl, ◌≢◌, List, [], ◌∷◌, length, Some}
use Rattle.std.proofs.Common.{sym, ◌∙◌, arith}
use Rattle.std.proofs.Math.Decide.{dec_lt, ℕ_discrete}
use Rattle.window.specs.Within.{Low}
use Rattle.register.specs.Module.{Module, Register}
use Rattle.history.specs.LoadedModule.{Image, base_of, Area}
use Rattle.history.specs.WellLaid.{WellLaid}
use Rattle.history.specs.Steps.Wp.{Memory}
use Rattle.history.specs.Steps.View.{View}
use Rattle.history.specs.Steps.Links.{Links}
use Rattle.history.specs.Steps.AllModulesShow.{Modules, Sound, AllModulesShow, put, put_same, put_other}
use Rattle.history.specs.Steps.Listing.{next_in, previous_in, ListWords, next_more, next_last}
use Rattle.history.specs.Steps.LinksResolved.{LinksResolved}
use Rattle.history.specs.Steps.Own.{RecordedAll}

-- where module k is
abbrev pub base_in : Modules → ℕ → ℕ
base_in C k = base_of (C.image k).load_call

-- the links and list words of all in the memory M
pub record LinkedState (C : Modules) (φ : ℕ → Links) (next previous : ℕ → ℕ) (M : Memory) : Type 0 where
  pub sound : Sound C
  pub some : 0 < C.number
  pub nonzero : (k : ℕ) → k < C.number → base_in C k ≢ 0
  pub modules_show : AllModulesShow C φ next previous M
  pub listed : ListWords (base_in C) C.number next previous
  pub links : (j : ℕ) → j < C.number → LinksResolved C.number C.image (C.image j) (φ j)

-- and what the register says of them: number 0 is the CRS
pub record RegisterMatches (C : Modules) (r : Register) : Type 0 where
  pub recorded : RecordedAll C.image r.modules
  pub many : length r.modules ≡ C.number
  pub crs : r.crs ≡ Some (base_in C 0)

-- at rest: with some links and list words
pub record AtRest (C : Modules) (r : Register) (M : Memory) : Type 0 where
  pub links : ℕ → Links
  pub next : ℕ → ℕ
  pub previous : ℕ → ℕ
  pub linked_state : LinkedState C links next previous M
  pub register_matches : RegisterMatches C r

-- one module more, with its bytes at rest
abbrev pub extended : Modules → Image → Memory → Modules
extended C m T =
    record { number = suc C.number; image = put C.image C.number m; rest = put C.rest C.number T }

module _ (C : Modules) (m : Image) (T : Memory) where
  pub image_new : (extended C m T).image C.number ≡ m
  image_new = put_same C.image C.number m

  pub image_old : (k : ℕ) → k < C.number → (extended C m T).image k ≡ C.image k
  image_old k l = put_other C.image C.number m k (λ e. absurd (omega (arith, e)))

  pub rest-new : (extended C m T).rest C.number ≡ T
  rest-new = put_same C.rest C.number T

  pub rest-old : (k : ℕ) → k < C.number → (extended C m T).rest k ≡ C.rest k
  rest-old k l = put_other C.rest C.number T k (λ e. absurd (omega (arith, e)))

  -- what holds of the old ones and of the new one holds of all
  pub each : (P : ℕ → Image → Memory → Type 0) → ((k : ℕ) → k < C.number → P k (C.image k) (C.rest k)) → P C.number m T
      → (k : ℕ) → k < suc C.number → P k ((extended C m T).image k) ((extended C m T).rest k)
  each P f g k l = go (ℕ_discrete k C.number)
    where
      go : Dec (k ≡ C.number) → P k ((extended C m T).image k) ((extended C m T).rest k)
      go (yes e) = rw (e, image_new, rest-new) g
      go (no o) = rw (image_old k (omega arith), rest-old k (omega arith)) (f k (omega arith))

  -- the new one's areas are apart from the others'
  pub more_sound
      : Sound C → WellLaid m → Low (Area m) → View m T → ((k q : ℕ) → k < C.number → Area (C.image k) q → Area m q → ⊥) → Sound (extended C m T)
  more_sound s laid low view off =
      record {
        laid = each (λ k x U. WellLaid x) s.laid laid;
        low = each (λ k x U. Low (Area x)) s.low low;
        view = each (λ k x U. View x U) s.view view;
        apart = λ j k q l g o. apart j k q (omega arith) (omega arith) o (ℕ_discrete j C.number) (ℕ_discrete k C.number);
      }
    where
      apart : (j k q : ℕ) → j < suc C.number → k < suc C.number → j ≢ k → Dec (j ≡ C.number) → Dec (k ≡ C.number)
          → Area ((extended C m T).image j) q → Area ((extended C m T).image k) q → ⊥
      apart j k q l g o (yes d) (yes e) a b = o (d ∙ sym e)
      apart j k q l g o (yes d) (no e) a b =
          off k q (omega arith) (rw (image_old k (omega arith)) at b) (rw (d, image_new) at a)
      apart j k q l g o (no d) (yes e) a b =
          off j q (omega arith) (rw (image_old j (omega arith)) at a) (rw (e, image_new) at b)
      apart j k q l g o (no d) (no e) a b =
          s.apart j k q (omega arith) (omega arith) o (rw (image_old j (omega arith)) at a) (rw (image_old k (omega arith)) at b)

-- what is said of n modules is said of any that are the same up to n
pub Listed-same
    : {b c x y u v : ℕ → ℕ} (n : ℕ) → ((k : ℕ) → k < n → b k ≡ c k) → ((k : ℕ) → k < n → x k ≡ u k) → ((k : ℕ) → k < n → y k ≡ v k)
    → ListWords b n x y → ListWords c n u v
unfolding previous_in
Listed-same {b} {c} n e f g h =
    record {
      nexts = λ k l. sym (f k l) ∙ h.nexts k l ∙ next k (dec_lt (suc k) n);
      previouses = λ k l. sym (g k l) ∙ h.previouses k l ∙ previous k l;
    }
  where
    next : (k : ℕ) → Dec (suc k < n) → next_in b n k ≡ next_in c n k
    next k (yes l) = next_more b n k l ∙ e (suc k) l ∙ sym (next_more c n k l)
    next k (no l) = next_last b n k (omega arith) ∙ sym (next_last c n k (omega arith))

    previous : (k : ℕ) → k < n → previous_in b n k ≡ previous_in c n k
    previous zero l = refl
    previous (suc zero) l = e (pred n) (omega arith)
    previous (suc (suc k)) l = e (suc k) (omega arith)

pub resolved_same
    : {x z : ℕ → Image} {m : Image} {φ : Links} (n : ℕ) → ((k : ℕ) → k < n → x k ≡ z k) → LinksResolved n x m φ → LinksResolved n z m φ
resolved_same n e f =
    record {
      found = λ i l b s k g p h. f.found i l b s k g p (rw (e k g) h);
      missing = λ i l b s o. f.missing i l b s (λ k g p h. o k g p (rw (e k g) at h));
      others = f.others;
    }

pub recorded-same : (x z : ℕ → Image) (ms : List Module) → ((k : ℕ) → k < length ms → x k ≡ z k) → RecordedAll x ms → RecordedAll z ms
unfolding RecordedAll
recorded-same x z [] e h = tt
recorded-same x z (r ∷ rs) e h =
    (rw (← e 0 (omega arith)) h.0, recorded-same (λ k. x (suc k)) (λ k. z (suc k)) rs (λ k l. e (suc k) (omega arith)) h.1)
