-- The modules that stand without number d, and the register's records without its record.
use Rattle.std.specs.Prelude.{ℕ, zero, suc, pred, ◌<◌, ◌≡◌, refl, List, [], ◌∷◌, length}
use Rattle.std.proofs.Common.{sym, ap, arith}
use Rattle.register.specs.Module.{Module}
use Rattle.register.specs.Change.{without}
use Rattle.history.specs.LoadedModule.{Image, Area}
use Rattle.history.specs.Steps.Wp.{Memory, SameOutside}
use Rattle.history.specs.Steps.ModuleBytes.{shows_agree}
use Rattle.history.specs.Steps.Links.{Links}
use Rattle.history.specs.Steps.AllModulesShow.{Modules, Sound, AllModulesShow}
use Rattle.history.specs.Steps.Leaving.{skip, skip-low, skip-high, skip-not, skip_below, skip-other, skip-suc}
use Rattle.history.specs.Steps.Own.{RecordedAll}
use Rattle.history.specs.Calls.LinkedState.{recorded-same}

abbrev pub fewer : Modules → ℕ → Modules
fewer C d = record { number = pred C.number; image = λ k. C.image (skip d k); rest = λ k. C.rest (skip d k) }

module _ (C : Modules) (sound : Sound C) (d : ℕ) (below : d < C.number) where
  inside : (k : ℕ) → k < pred C.number → skip d k < C.number
  inside k l = skip_below C.number d k below l

  pub fewer_sound : Sound (fewer C d)
  fewer_sound =
      record {
        laid = λ k l. sound.laid (skip d k) (inside k l);
        low = λ k l. sound.low (skip d k) (inside k l);
        view = λ k l. sound.view (skip d k) (inside k l);
        apart = λ j k q l g o. sound.apart (skip d j) (skip d k) q (inside j l) (inside k g) (λ e. o (skip-other d j k e));
      }

  -- the others stand, whatever became of its areas
  pub fewer_modules_show
      : {φ : ℕ → Links} {n v : ℕ → ℕ} {M N : Memory} → AllModulesShow C φ n v M → SameOutside (Area (C.image d)) M N
      → AllModulesShow (fewer C d) (λ k. φ (skip d k)) (λ k. n (skip d k)) (λ k. v (skip d k)) N
  fewer_modules_show w t =
      record {
        stands =
            λ k l.
            record {
              shows =
                  shows_agree (C.image (skip d k)) (sound.laid (skip d k) (inside k l))
                  (λ q r. sym (t q (λ u. sound.apart (skip d k) d q (inside k l) below (skip-not d k) r u)))
                  (w.stands (skip d k) (inside k l)).shows;
            };
      }

pub recorded-without
    : (x : ℕ → Image) (rs : List Module) (d : ℕ) → RecordedAll x rs → RecordedAll (λ k. x (skip d k)) (without rs d)
unfolding RecordedAll without
recorded-without x [] d h = tt
recorded-without x (r ∷ rs) zero h =
    recorded-same (λ k. x (suc k)) (λ k. x (skip 0 k)) rs (λ k l. ap x (sym (skip-high 0 k (omega arith)))) h.1
recorded-without x (r ∷ rs) (suc d) h = (
  rw (skip-low (suc d) 0 (omega arith)) h.0,
  recorded-same (λ k. x (suc (skip d k))) (λ k. x (skip (suc d) (suc k))) (without rs d) (λ k l. ap x (sym (skip-suc d k)))
      (recorded-without (λ k. x (suc k)) rs d h.1),
)

pub length_without : (rs : List Module) (d : ℕ) → d < length rs → length (without rs d) ≡ pred (length rs)
unfolding without
length_without [] d l = absurd (omega arith)
length_without (r ∷ rs) zero l = refl
length_without (r ∷ rs) (suc d) l = let e = length_without rs d (omega arith) in omega (arith, e)
