-- An unload: the others' links to the module go, it leaves its list and gets its offsets back; the others are at rest without it.
use Prim.Native.Nat.{ℕ, pred, ◌+◌, ◌<◌}
use Rattle.std.specs.Prelude.{◌≡◌, Option, Some}
use Rattle.std.proofs.Math.Path.{refl, ap}
use Rattle.std.proofs.Common.{sym, ◌∙◌}
use native.Mathlib.Omega.{arith}
use Rattle.std.proofs.Math.ListN.{length}
use Rattle.window.specs.Access.{ret, ◌>>◌}
use Rattle.register.specs.Module.{Register}
use Rattle.register.specs.Change.{without, removed}
use Rattle.linker_spec.specs.Lists.{unregister}
use Rattle.linker_spec.specs.Resets.{reset_importers}
use Rattle.linker_spec.specs.Unrebase.{unrebase}
use Rattle.linker_spec.specs.Calls.{Answer, Done, unlisted, leave, unload}
use Rattle.history.specs.LoadedModule.{Area}
use Rattle.history.specs.Imports.{Import, Exports}
use Rattle.history.specs.Steps.Wp.{Memory, Does, does_mono, does_ret, does_then, does_wider}
use Rattle.history.specs.Steps.ModuleBytes.{shows_view}
use Rattle.history.specs.Steps.Links.{Links}
use Rattle.history.specs.Steps.AllModulesShow.{Modules, Sound, AllModulesShow, All, base}
use Rattle.history.specs.Steps.Listing.{ListWords}
use Rattle.history.specs.Steps.Leaving.{skip, skip-low, skip-not, skip_below, distinct, unregisters}
use Rattle.history.specs.Steps.LinksResolved.{dropped}
use Rattle.history.specs.Steps.ByBase.{finds}
use Rattle.history.specs.Steps.Reaching.{resets_modules_show}
use Rattle.history.specs.Rebase.Unrebased.{unrebases}
use Rattle.history.specs.Steps.Once.{Unlike, once}
use Rattle.history.specs.Calls.LinkedState.{AtRest}
use Rattle.history.specs.Calls.Gone.{fewer, fewer_sound, fewer_modules_show, recorded-without, length_without}

module _ (C : Modules) (sound : Sound C) (unlike : Unlike C) where
  abbrev S : ℕ → Type 0
  S = All C sound

  abbrev b : ℕ → ℕ
  b = base C sound

  module _ (d : ℕ) (above : 0 < d) (below : d < C.number) where
    abbrev OthersShow : (ℕ → Links) → Memory → Type 0
    OthersShow φ N =
        (u : ℕ → ℕ) × (t : ℕ → ℕ) × AllModulesShow (fewer C d) (λ k. φ (skip d k)) u t N × ListWords (λ k. b (skip d k)) (pred C.number) u t

    -- number d leaves its list and gets its offsets back
    pub goes
        : {A : Type 0} (a : A) (crs : Option ℕ) → crs ≡ Some (b 0) → {φ : ℕ → Links} {x y : ℕ → ℕ} {M : Memory} → AllModulesShow C φ x y M
        → ListWords b C.number x y → Does S (unlisted crs (b d) >> (unrebase (b d) >> ret a)) (λ c N. (c ≡ a) × OthersShow φ N) M
    unfolding unlisted
    goes a crs e {φ} {x} {y} w h =
        rw e
        (does_then S (unregister (b 0) (b d)) _ (unregisters C sound unlike.nonzero C.number d refl above below φ x y h w)
        (λ _ N g.
        does_then S (unrebase (b d)) _
        (does_wider (Area (C.image d)) S (λ q s. (d, below, s))
        (unrebases (C.image d) (sound.laid d below) (sound.low d below)
        (shows_view (C.image d) (sound.laid d below) (sound.view d below) (g.2.stands d below).shows)))
        (λ _ L t.
        does_ret S (refl, ((λ k. g.0 (skip d k)), (λ k. g.1 (skip d k)), fewer_modules_show C sound d below g.2 t.1, g.3)))))

    once_of
        : (l : ℕ) → l < C.number → (i : Import) (j k p q : ℕ) → j < C.number → k < C.number → Exports (C.image j) (C.image l) i p
        → Exports (C.image k) (C.image l) i q → j ≡ k
    once_of l g = once (C.image l) (sound.laid l g) C.number C.image unlike.names unlike.exports

    abbrev AfterUnload : Register → Answer → Memory → Type 0
    AfterUnload r a N = (a ≡ Done 1 (removed r d)) × AtRest (fewer C d) (removed r d) N

    pub unload_does : (r : Register) {M : Memory} → AtRest C r M → Does S (unload (b d) r) (AfterUnload r) M
    unfolding unload leave removed
    unload_does r {M} s =
        let some : d < length r.modules = rw s.register_matches.many below in
        let fewer-many : length (without r.modules d) ≡ pred C.number = length_without r.modules d some ∙ ap pred s.register_matches.many in
        let recs = recorded-without C.image r.modules d s.register_matches.recorded in
        let f =
        finds C.image r.modules d 0 (b d) some refl
        (λ j l. distinct C sound unlike.nonzero j d (omega arith) below (λ e. absurd (omega (arith, e)))) s.register_matches.recorded in
        let z : 0 + d ≡ d = omega arith in
        rw (f.2, z)
        (does_then S (reset_importers f.0 (without r.modules d)) _
        (resets_modules_show C sound (C.image d) f.0 f.1 d (without r.modules d) below fewer-many recs s.linked_state.modules_show)
        (λ _ N g.
        does_mono S (goes (Done 1 (removed r d)) r.crs s.register_matches.crs g.1 s.linked_state.listed)
        (λ a L t. (
          t.0,
          record {
            links = λ k. g.0 (skip d k);
            next = t.1.0;
            previous = t.1.1;
            linked_state =
                record {
                  sound = fewer_sound C sound d below;
                  some = let z : 0 < pred C.number = omega arith in z;
                  nonzero = λ k l. unlike.nonzero (skip d k) (skip_below C.number d k below l);
                  modules_show = t.1.2;
                  listed = t.1.3;
                  links =
                      λ k l.
                      let i = skip_below C.number d k below l in
                      dropped C.number d below C.image (C.image (skip d k)) (sound.laid (skip d k) i) (once_of (skip d k) i) unlike.names
                      (s.linked_state.links (skip d k) i) (g.2 (skip d k) i (skip-not d k));
                };
            register_matches =
                record { recorded = recs; many = fewer-many; crs = s.register_matches.crs ∙ ap (λ k. Some (b k)) (sym (skip-low d 0 above)) };
          },
        ))))
