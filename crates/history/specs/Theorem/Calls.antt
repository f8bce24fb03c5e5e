-- Each call in the window: from modules at rest to modules at rest.
use Prim.Native.Nat.{ℕ, zero, suc, ◌+◌, ◌^◌, ◌≤◌, ◌<◌}
use Rattle.std.specs.Prelude.{◌≡◌, refl, ◌≢◌, List, [], ◌∷◌, ◌++◌, Bool, get_or, None}
use Rattle.std.proofs.Common.{sym, ap, ◌∙◌, lt-ltb}
use Rattle.std.proofs.Math.Path.{fun_ext, subst}
use Rattle.std.proofs.Math.Bool.{true}
use native.Mathlib.Omega.{arith}
use Rattle.std.proofs.Math.Decide.{ℕ_discrete}
use Rattle.std.proofs.Math.ListN.{length, get_or-append}
use Rattle.std.proofs.Math.Dec.{lit<}
use Rattle.window.specs.Memory.{byte_at, place}
use Rattle.window.specs.Access.{Prog, run}
use Rattle.window.specs.Small.{byte_at-small}
use Rattle.window.specs.Within.{In, Low, Lies, Agree}
use Rattle.window.specs.Mirror.{run_m}
use Rattle.register.specs.Module.{Register}
use Rattle.register.specs.Change.{removed}
use Rattle.linker_spec.specs.declared.rebase.LoadArguments.{LoadArguments}
use Rattle.linker_spec.specs.Calls as calls
use Rattle.linker_spec.specs.Calls.{Answer, Done, rebase_static}
use Rattle.history.specs.Below.{length_more}
use Rattle.history.specs.LoadedModule.{initialized, loaded, Image, LoadedModule, cut, image_of, base_of, size_of, Area}
use Rattle.history.specs.WellLaid.{WellLaid}
use Rattle.history.specs.Demand3.{OtherExports}
use Rattle.history.specs.Steps.Wp.{Memory, Does}
use Rattle.history.specs.Steps.Windowed.{windowed}
use Rattle.history.specs.Steps.AllModulesShow.{All, put}
use Rattle.history.specs.Steps.View.{View}
use Rattle.history.specs.Steps.Links.{Stands}
use Rattle.history.specs.Steps.LinksResolved.{LinksResolved}
use Rattle.history.specs.Steps.Own.{RecordedAll}
use Rattle.history.specs.Steps.Leaving.{skip, skip_below}
use Rattle.history.specs.Steps.Once.{Unlike, once}
use Rattle.history.specs.Calls.Gone.{fewer}
use Rattle.history.specs.Calls.Unloads.{unload_does}
use Rattle.history.specs.Calls.LinkedState.{AtRest, extended, Listed-same, resolved_same, recorded-same}
use Rattle.history.specs.Calls.Bringing.{brought}
use Rattle.history.specs.Calls.Loads.{LoadSucceeded, LoadAnswered, Reach, Once, DistinctNames, loads, rest_of}
use Rattle.history.specs.Calls.Starts.{Started, Begun, starts}
use Rattle.history.specs.Sessions.Lists.{lacking, lacking-at, lacking-length}
use Rattle.history.specs.Sessions.Unique.{no_module, image_at}
use Rattle.history.specs.Sessions.Registers.{last-at}
use Rattle.history.specs.Theorem.Invariant.{rest_for, rest_of_module, standing_modules, RestFromAreas, Resting, resting_agree, more-at, modules_more, modules_less}

-- what the premises say of the modules of a list, n bytes from at being the window
pub record Fine (at n : ℕ) (S : List LoadedModule) : Type 0 where
  pub top : at + n ≤ 2 ^ 32
  pub laid : (k : ℕ) → k < length S → WellLaid (image_at S k)
  pub nonzero : (k : ℕ) → k < length S → base_of (image_at S k).load_call ≢ 0
  pub inside : (k q : ℕ) → k < length S → Area (image_at S k) q → In at n q
  pub apart : (j k q : ℕ) → j < length S → k < length S → j ≢ k → Area (image_at S j) q → Area (image_at S k) q → ⊥
  pub names : DistinctNames (length S) (image_at S)
  pub exports : (j k : ℕ) → j < length S → k < length S → j ≢ k → OtherExports (image_at S j) (image_at S k)

-- what lies in the window
pub in_lies : (at n q : ℕ) → at + n ≤ 2 ^ 32 → In at n q → (q < 2 ^ 32) × (place at q < n)
unfolding place
in_lies at n q h i = (omega arith, omega arith)

module _ (at n : ℕ) (S : List LoadedModule) (f : Fine at n S) where
  pub fine_low : (k : ℕ) → k < length S → Low (Area (image_at S k))
  fine_low k l q a = (in_lies at n q f.top (f.inside k q l a)).0

  pub fine_unlike : Unlike (standing_modules S)
  fine_unlike = record { nonzero = f.nonzero; names = f.names; exports = f.exports }

  pub fine_once : Once (length S) (image_at S)
  fine_once t l = once (image_at S t) (f.laid t l) (length S) (image_at S) f.names f.exports

-- the image's bytes are those of the memory
pub cut-fresh : (a : LoadedModule) (o : ℕ) → o < size_of a.load_call → a.bytes (base_of a.load_call + o) ≡ (image_of a).file o
unfolding cut
cut-fresh a o l = rw (lt-ltb o (size_of a.load_call) l) refl

-- what a program does on the bytes of the window, asked of its answer and of bytes that agree with what it leaves
pub in_window
    : (S : ℕ → Type 0) (at : ℕ) (w : List ℕ) → Lies S at (length w) → (m : Prog Answer) (Q : Answer → Memory → Type 0)
    → Does S m Q (byte_at at w) → (N : Memory) × Q (run at m w).0 N × Agree S N (byte_at at (run at m w).1)
in_window S at w fit m Q h =
    let g = windowed S at (length w) fit m w refl (λ q s. refl) h in
    ((run_m m (byte_at at w)).1, rw g.same h.gives, λ q s. sym (g.agree q s))

joined_rests
    : (S : List LoadedModule) (a : LoadedModule) {s : Register} {N : Memory} (T : Memory) → T ≡ rest_of_module a → AtRest (extended (standing_modules S) (image_of a) T) s N
    → ((k : ℕ) → k < length S → RestFromAreas (get_or S k no_module)) → RestFromAreas a → Resting (S ++ (a ∷ [])) s N
joined_rests S a {s} {N} T e j old new =
    let c : extended (standing_modules S) (image_of a) T ≡ standing_modules (S ++ (a ∷ [])) = ap (extended (standing_modules S) (image_of a)) e ∙ modules_more S a in
    record { rest = subst (λ C. AtRest C s N) c j; alike = λ k l. each k l (ℕ_discrete k (length S)) }
  where
    each : (k : ℕ) → k < length (S ++ (a ∷ [])) → Dec (k ≡ length S) → RestFromAreas (get_or (S ++ (a ∷ [])) k no_module)
    each k l (yes z) = rw z (subst RestFromAreas (sym (last-at S a no_module)) new)
    each k l (no z) =
        let g : k < length S = let n = length_more S a in omega (arith, n) in
        subst RestFromAreas (sym (get_or-append S (a ∷ []) no_module k g)) (old k g)

-- one less
fewer_rests
    : (S : List LoadedModule) (d : ℕ) → d < length S → {s : Register} {N : Memory} → AtRest (fewer (standing_modules S) d) s N
    → ((k : ℕ) → k < length S → RestFromAreas (get_or S k no_module)) → Resting (lacking S d) s N
fewer_rests S d l {s} {N} h old =
    record {
      rest = subst (λ C. AtRest C s N) (modules_less S d l) h;
      alike =
          λ k g.
          let e = lacking-length S d l in
          subst RestFromAreas (sym (lacking-at S d no_module k)) (old (skip d k) (skip_below (length S) d k l (omega (arith, e))));
    }

-- a call on modules at rest in the window
module _ (at : ℕ) (w : List ℕ) (S : List LoadedModule) (r : Register) (h : Resting S r (byte_at at w)) where
  -- `unload` of number d
  pub unload_rests
      : Fine at (length w) S → (d : ℕ) → 0 < d → d < length S
      → Resting (lacking S d) (removed r d) (byte_at at (run at (calls.unload (base_of (image_at S d).load_call) r) w).1)
  unload_rests f d above below =
      let C = standing_modules S in
      let so = h.rest.linked_state.sound in
      let g =
      in_window (All C so) at w (λ q s. in_lies at (length w) q f.top (f.inside s.0 q s.1 s.2))
      (calls.unload (base_of (image_at S d).load_call) r)
      (λ a N. (a ≡ Done 1 (removed r d)) × AtRest (fewer C d) (removed r d) N)
      (unload_does C so (fine_unlike at (length w) S f) d above below r h.rest) in
      resting_agree (lacking S d) (λ k l q u. g.2 q (skip d k, inside k l, there k q u))
      (fewer_rests S d below g.1.1 h.alike)
    where
      inside : (k : ℕ) → k < length (lacking S d) → skip d k < length S
      inside k l = let e = lacking-length S d below in skip_below (length S) d k below (omega (arith, e))

      there : (k q : ℕ) → Area (image_at (lacking S d) k) q → Area (image_at S (skip d k)) q
      there k q u = subst (λ a. Area (image_of a) q) (lacking-at S d no_module k) u

  -- `load`
  module _ (l : LoadArguments) (auto : Bool) (level : ℕ) where
    abbrev new : LoadedModule
    new = record { load_call = loaded l auto level; bytes = byte_at at w }

    abbrev more : List LoadedModule
    more = S ++ (new ∷ [])

    abbrev images : ℕ → Image
    images = put (image_at S) (length S) (image_of new)

    images-more : images ≡ image_at more
    images-more = fun_ext (more-at image_of S new)

    last : image_at more (length S) ≡ image_of new
    last = ap image_of (last-at S new no_module)

    old : (k : ℕ) → k < length S → image_at more k ≡ image_at S k
    old k g = ap image_of (get_or-append S (new ∷ []) no_module k g)

    pub load_rests
        : Fine at (length w) more → ((i : ℕ) → get_or w i 0 < 256) → l.data_segment < 2 ^ 32 → l.bss_segment < 2 ^ 32 → level ≢ 2 → level ≢ 3
        → (records names v : ℕ) (s : Register) → (run at (calls.load l true level records names r) w).0 ≡ Done v s
        → Resting more s (byte_at at (run at (calls.load l true level records names r) w).1)
    unfolding LoadAnswered rest_for
    load_rests f small data-low bss-low c d records names v s e =
        let g =
        in_window (Reach (standing_modules S) m) at w fit (calls.load l true level records names r) (LoadAnswered (standing_modules S) l m level (byte_at at w)) does in
        let came : LoadSucceeded (standing_modules S) l m level (byte_at at w) s g.0 =
        subst (λ a. LoadAnswered (standing_modules S) l m level (byte_at at w) a g.0) e g.1 in
        resting_agree more (λ k i q u. g.2 q (k, omega (arith, i, count), subst (λ x. Area (x k) q) (sym images-more) u))
        (joined_rests S new came.rest came.bytes came.joined h.alike
        (λ D x. subst (λ T. Agree (Area m) T (rest_of l m level D)) came.bytes (came.alike D x)))
      where
        m : Image
        m = image_of new

        count : suc (length S) ≡ length more
        count = sym (length_more S new)

        top : length S < length more
        top = omega (arith, count)

        laid : WellLaid m
        laid = subst WellLaid last (f.laid (length S) top)

        low : Low (Area m)
        low = subst (λ x. Low (Area x)) last (fine_low at (length w) more f (length S) top)

        fit : Lies (Reach (standing_modules S) m) at (length w)
        fit q s =
            in_lies at (length w) q f.top
            (f.inside s.0 q (omega (arith, count, s.1)) (subst (λ x. Area (x s.0) q) images-more s.2))

        off : (k q : ℕ) → k < length S → Area (image_at S k) q → Area m q → ⊥
        off k q i a b =
            f.apart k (length S) q (omega (arith, count)) top (λ z. absurd (omega (arith, z))) (subst (λ x. Area x q) (sym (old k i)) a)
            (subst (λ x. Area x q) (sym last) b)

        nonzero : l.base ≢ 0
        nonzero = subst (λ x. base_of x.load_call ≢ 0) last (f.nonzero (length S) top)

        bytes : (o : ℕ) → o < l.size → m.file o < 256
        bytes o i = rw (← cut-fresh new o i) (byte_at-small at w (l.base + o) small)

        once : Once (suc (length S)) images
        once = rw (count, images-more) (fine_once at (length w) more f)

        other : DistinctNames (suc (length S)) images
        other = rw (count, images-more) f.names

        does : Does (Reach (standing_modules S) m) (calls.load l true level records names r) (LoadAnswered (standing_modules S) l m level (byte_at at w)) (byte_at at w)
        does =
            loads (standing_modules S) l auto level m.file laid low bytes data-low bss-low off nonzero c d once other h.rest.linked_state r h.rest.register_matches
            (λ o i. cut-fresh new o i) records names

-- `initialize`, with no module before
module _ (at : ℕ) (w : List ℕ) (r : Register) (none_yet : r.modules ≡ []) (base size : ℕ) where
  abbrev crs : LoadedModule
  crs = record { load_call = initialized base size; bytes = byte_at at w }

  started_rests : {s : Register} {N : Memory} → Started (image_of crs) (byte_at at w) s N → Resting (crs ∷ []) s N
  unfolding rest_for RecordedAll
  started_rests {s} {N} g =
      record {
        rest =
            record {
              links = λ _ _. None;
              next = λ _. 0;
              previous = λ _. 0;
              linked_state =
                  record {
                    sound =
                        record {
                          laid = first (λ k x T. WellLaid x) g.linked_state.sound.laid;
                          low = first (λ k x T. Low (Area x)) g.linked_state.sound.low;
                          view = first (λ k x T. View x T) g.linked_state.sound.view;
                          apart = λ j k q l i o. absurd (o (omega arith));
                        };
                    some = lit< tt;
                    nonzero = first (λ k x T. base_of x.load_call ≢ 0) g.linked_state.nonzero;
                    modules_show = record { stands = first (λ k x T. Stands x T (λ _. None) 0 0 N) g.linked_state.modules_show.stands };
                    listed = Listed-same 1 (first (λ k x T. base ≡ base_of x.load_call) (λ k l. refl)) (λ k l. refl) (λ k l. refl) g.linked_state.listed;
                    links = λ j l. resolved_same 1 (first (λ k x T. image_of crs ≡ x) (λ k l. refl))
                        (first (λ k x T. LinksResolved 1 (λ _. image_of crs) x (λ _. None)) g.linked_state.links j l);
                  };
              register_matches =
                  record {
                    recorded =
                        recorded-same (λ _. image_of crs) (image_at (crs ∷ [])) s.modules
                        (λ k l. first (λ k x T. image_of crs ≡ x) (λ k l. refl) k (rw g.register_matches.many at l)) g.register_matches.recorded;
                    many = g.register_matches.many;
                    crs = g.register_matches.crs;
                  };
            };
        alike = alike;
      }
    where
      first
          : (P : ℕ → Image → Memory → Type 0) → ((k : ℕ) → k < 1 → P k (image_of crs) g.rest) → (k : ℕ) → k < 1
          → P k (image_at (crs ∷ []) k) (rest_of_module (get_or (crs ∷ []) k no_module))
      first P f zero l = subst (P 0 (image_of crs)) g.bytes (f 0 l)
      first P f (suc k) l = absurd (omega arith)

      alike : (k : ℕ) → k < 1 → RestFromAreas (get_or (crs ∷ []) k no_module)
      alike zero l = λ D x. subst (λ T. Agree (Area (image_of crs)) T (brought (rebase_static base) base D)) g.bytes (g.alike D x)
      alike (suc k) l = absurd (omega arith)

  pub initialize_rests
      : Fine at (length w) (crs ∷ []) → ((i : ℕ) → get_or w i 0 < 256) → (records names v : ℕ) (s : Register)
      → (run at (calls.initialize base size records names r) w).0 ≡ Done v s
      → Resting (crs ∷ []) s (byte_at at (run at (calls.initialize base size records names r) w).1)
  unfolding Begun
  initialize_rests f small records names v s e =
      let m = image_of crs in
      let p = calls.initialize base size records names r in
      let one : 0 < length (crs ∷ []) = lit< tt in
      let g =
      in_window (Area m) at w (λ q u. in_lies at (length w) q f.top (f.inside 0 q one u)) p (Begun m (byte_at at w))
      (starts base size m.file (f.laid 0 one) (fine_low at (length w) (crs ∷ []) f 0 one)
      (λ o i. rw (← cut-fresh crs o i) (byte_at-small at w (base + o) small)) (f.nonzero 0 one) (λ o i. cut-fresh crs o i) r none_yet
      records names) in
      let begun : Started m (byte_at at w) s g.0 = subst (λ a. Begun m (byte_at at w) a g.0) e g.1 in
      resting_agree (crs ∷ []) (λ k i q u. g.2 q (let z : k ≡ 0 = omega arith in rw z at u)) (started_rests begun)
