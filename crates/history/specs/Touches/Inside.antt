-- Each call on modules at rest in the window: none of its accesses has a byte outside, whatever it answers.
use Rattle.std.specs.Prelude.{ℕ, suc, ◌+◌, ◌^◌, ◌<◌, ◌≡◌, ◌≢◌, List, [], ◌∷◌, ◌++◌, Bool, true, length}
use Rattle.std.proofs.Math.Path.{refl, ap, fun_ext}
use Rattle.std.proofs.Common.{sym, ◌∙◌, subst, arith}
use Rattle.std.proofs.Math.ListN.{get_or-append}
use Rattle.window.specs.Memory.{byte_at}
use Rattle.window.specs.Access.{Prog}
use Rattle.window.specs.Small.{Bytes, byte_at-small}
use Rattle.window.specs.Within.{Lies, Low}
use Rattle.window.specs.Trace.{State, touch_of}
use Rattle.window.specs.TraceRuns.{given}
use Rattle.window.specs.Silent.{within}
use Rattle.register.specs.Module.{Register}
use Rattle.linker_spec.specs.declared.rebase.LoadArguments.{LoadArguments}
use Rattle.linker_spec.specs.Calls as calls
use Rattle.linker_spec.specs.Calls.{Answer, NotLoaded, unknown, first_with_base, leave}
use Rattle.linker_spec.specs.Touches.{no_touch, no_log, none_said, touch_in}
use Rattle.history.specs.Below.{length_more}
use Rattle.history.specs.LoadedModule.{LoadCall, initialized, loaded, Image, LoadedModule, image_of, base_of, size_of, Area}
use Rattle.history.specs.WellLaid.{WellLaid}
use Rattle.history.specs.Steps.Wp.{Memory, Does}
use Rattle.history.specs.Steps.Windowed.{within_window}
use Rattle.history.specs.Steps.AllModulesShow.{All, put}
use Rattle.history.specs.Calls.Loads.{Reach, Once, DistinctNames, loads}
use Rattle.history.specs.Calls.Starts.{starts}
use Rattle.history.specs.Calls.Unloads.{unload_does}
use Rattle.history.specs.Sessions.Unique.{no_module, image_at}
use Rattle.history.specs.Sessions.Registers.{last-at}
use Rattle.history.specs.Theorem.Invariant.{standing_modules, Resting, more-at}
use Rattle.history.specs.Theorem.Calls.{Fine, in_lies, fine_unlike, fine_once, cut-fresh}

module _ (at : ℕ) (w : List ℕ) where
  -- a run that touches nothing
  abbrev pub Inside : {A : Type 0} → Prog A → Type 0
  Inside m = touch_in at m w ≡ (0, 0)

  does_inside
      : {A : Type 0} (X : ℕ → Type 0) → Lies X at (length w) → (m : Prog A) {Q : A → Memory → Type 0} → Does X m Q (byte_at at w) → Inside m
  unfolding touch_in
  does_inside X fit m h =
      ap touch_of
      (within at X (length w) fit m w no_touch refl no_log
      (within_window X at (length w) fit m w (byte_at at w) refl h.lies (λ q s. refl)))
      ∙ none_said

  -- a module that comes beside those of S
  module _ (S : List LoadedModule) (c : LoadCall) where
    abbrev new : LoadedModule
    new = record { load_call = c; bytes = byte_at at w }

    abbrev more : List LoadedModule
    more = S ++ (new ∷ [])

    abbrev m : Image
    m = image_of new

    module _ (f : Fine at (length w) more) (small : Bytes w) where
      top : length S < length more
      top = let n = length_more S new in omega (arith, n)

      last : image_at more (length S) ≡ m
      last = ap image_of (last-at S new no_module)

      laid : WellLaid m
      laid = subst WellLaid last (f.laid (length S) top)

      lies : Lies (Area m) at (length w)
      lies q a = in_lies at (length w) q f.top (f.inside (length S) q top (subst (λ x. Area x q) (sym last) a))

      low : Low (Area m)
      low q a = (lies q a).0

      nonzero : base_of c ≢ 0
      nonzero = subst (λ x. base_of x.load_call ≢ 0) last (f.nonzero (length S) top)

      bytes : (o : ℕ) → o < size_of c → m.file o < 256
      bytes o i = rw (← cut-fresh new o i) (byte_at-small at w (base_of c + o) small)

      off : (k q : ℕ) → k < length S → Area (image_at S k) q → Area m q → ⊥
      off k q i a b =
          f.apart k (length S) q (omega (arith, top)) top (λ z. absurd (omega (arith, z)))
          (subst (λ x. Area x q) (sym (ap image_of (get_or-append S (new ∷ []) no_module k i))) a) (subst (λ x. Area x q) (sym last) b)

  -- the CRS, no module being registered
  pub initialize-inside
      : (S : List LoadedModule) (base size : ℕ) → Fine at (length w) (more S (initialized base size)) → Bytes w → (r : Register) → r.modules ≡ []
      → (records names : ℕ) → Inside (calls.initialize base size records names r)
  initialize-inside S base size f small r none_yet records names =
      let c = initialized base size in
      does_inside (Area (m S c)) (lies S c f small) (calls.initialize base size records names r)
      (starts base size (m S c).file (laid S c f small) (low S c f small) (bytes S c f small) (nonzero S c f small) (cut-fresh (new S c)) r none_yet
      records names)

  module _ (S : List LoadedModule) (r : Register) (h : Resting S r (byte_at at w)) where
    pub load_inside
        : (l : LoadArguments) (auto : Bool) (level : ℕ) → Fine at (length w) (more S (loaded l auto level)) → Bytes w → l.data_segment < 2 ^ 32
        → l.bss_segment < 2 ^ 32 → level ≢ 2 → level ≢ 3 → (records names : ℕ) → Inside (calls.load l true level records names r)
    load_inside l auto level f small data-low bss-low n₂ n₃ records names =
        does_inside (Reach (standing_modules S) (m S c)) fit (calls.load l true level records names r)
        (loads (standing_modules S) l auto level (m S c).file (laid S c f small) (low S c f small) (bytes S c f small) data-low bss-low (off S c f small)
        (nonzero S c f small) n₂ n₃ once other h.rest.linked_state r h.rest.register_matches (cut-fresh (new S c)) records names)
      where
        c : LoadCall
        c = loaded l auto level

        images : ℕ → Image
        images = put (image_at S) (length S) (m S c)

        all : images ≡ image_at (more S c)
        all = fun_ext (more-at image_of S (new S c))

        count : suc (length S) ≡ length (more S c)
        count = sym (length_more S (new S c))

        fit : Lies (Reach (standing_modules S) (m S c)) at (length w)
        fit q s =
            in_lies at (length w) q f.top (f.inside s.0 q (omega (arith, count, s.1)) (subst (λ x. Area (x s.0) q) all s.2))

        once : Once (suc (length S)) images
        once = rw (count, all) (fine_once at (length w) (more S c) f)

        other : DistinctNames (suc (length S)) images
        other = rw (count, all) f.names

    -- number d leaves
    pub unload-inside : Fine at (length w) S → (d : ℕ) → 0 < d → d < length S → Inside (calls.unload (base_of (image_at S d).load_call) r)
    unload-inside f d above below =
        let C = standing_modules S in
        let sound = h.rest.linked_state.sound in
        does_inside (All C sound) (λ q s. in_lies at (length w) q f.top (f.inside s.0 q s.1 s.2))
        (calls.unload (base_of (image_at S d).load_call) r)
        (unload_does C sound (fine_unlike at (length w) S f) d above below r h.rest)

  -- a base that no module has: no access at all
  pub unknown_inside : (base : ℕ) (r : Register) → first_with_base base r.modules 0 ≡ unknown → Inside (calls.unload base r)
  unfolding touch_in calls.unload leave
  unknown_inside base r e = rw e (ap (λ (x : Answer × State). touch_of x.1.1) (sym (given at NotLoaded (w, no_touch))) ∙ none_said)
