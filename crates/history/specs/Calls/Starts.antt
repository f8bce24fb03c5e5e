-- `initialize` of a well-laid CRS with no module before it: a refusal, or the CRS stands alone, without links and list words.
use Prim.Native.Nat.{ℕ, zero, suc, ◌<◌}
use Rattle.std.specs.Prelude.{if◌then◌else◌, ◌≡◌, ◌≢◌, [], Bool, false, None}
use Rattle.std.proofs.Math.Path.{refl, sym}
use Rattle.std.proofs.Common.{inl, inr, lit<}
use Rattle.std.proofs.Math.Bool.{true}
use native.Mathlib.Omega.{arith}
use Rattle.window.specs.Access.{Prog, ret, ◌>>=◌}
use Rattle.window.specs.Within.{Low, Agree}
use Rattle.window.specs.Mirror.{word}
use Rattle.layout.specs.Header.{next_cro, previous_cro}
use Rattle.layout.specs.Segments.{set_field}
use Rattle.register.specs.Module.{Module, Register}
use Rattle.register.specs.Change.{appended, with_crs}
use Rattle.linker_spec.specs.Exports.{read_module}
use Rattle.linker_spec.specs.Calls as calls
use Rattle.linker_spec.specs.Calls.{Answer, Done, fits, rebase_static, Refused}
use Rattle.linker_spec.specs.declared.refusal.Refusal.TheVariants.{NoRoom}
use Rattle.history.specs.LoadedModule.{initialized, Image, base_of, Area}
use Rattle.history.specs.Imports.{Exporter}
use Rattle.history.specs.WellLaid.{WellLaid}
use Rattle.history.specs.Steps.Wp.{Memory, Does, does_ret, does_then, does_wider}
use Rattle.history.specs.Steps.View.{View}
use Rattle.history.specs.Steps.Links.{Stands}
use Rattle.history.specs.Steps.AllModulesShow.{Modules, Sound, AllModulesShow, All, put, put_same, sets_next, sets_previous}
use Rattle.history.specs.Steps.Listing.{previous_in, ListWords, next_last}
use Rattle.history.specs.Steps.Records.{Recorded}
use Rattle.history.specs.Steps.Recording.{records}
use Rattle.history.specs.Steps.LinksResolved.{LinksResolved}
use Rattle.history.specs.Steps.Own.{RecordedAll}
use Rattle.history.specs.Rebase.Header.{AsInFile}
use Rattle.history.specs.Rebase.Rebased.{rebased_static}
use Rattle.history.specs.Rebase.Arrives.{Refuses, recorded}
use Rattle.history.specs.Calls.LinkedState.{LinkedState, RegisterMatches}
use Rattle.history.specs.Calls.Bringing.{brought, Brought, brings}

-- one module, with its bytes at rest
abbrev pub alone : Image → Memory → Modules
alone m T = record { number = 1; image = λ _. m; rest = λ _. T }

-- T is what the bytes before the call say, those of its areas alone
pub record Started (m : Image) (B : Memory) (s : Register) (N : Memory) : Type 0 where
  pub rest : Memory
  pub linked_state : LinkedState (alone m rest) (λ _ _. None) (λ _. 0) (λ _. 0) N
  pub register_matches : RegisterMatches (alone m rest) s
  pub bytes : rest ≡ brought (rebase_static (base_of m.load_call)) (base_of m.load_call) B
  pub alike : (D : Memory) → Agree (Area m) B D → Agree (Area m) rest (brought (rebase_static (base_of m.load_call)) (base_of m.load_call) D)

-- what is said of the answer
unfoldable pub Begun : Image → Memory → Answer → Memory → Type 0
Begun m B (Done v s) N = Started m B s N
Begun m B (Refused refusal) N = Unit {0}
Begun m B Answer.NotLoaded N = Unit {0}

module _ (m : Image) (laid : WellLaid m) (low : Low (Area m)) {T : Memory} (view : View m T) where
  abbrev C : Modules
  C = alone m T

  sound_alone : Sound C
  sound_alone =
      record { laid = λ k l. laid; low = λ k l. low; view = λ k l. view; apart = λ j k q l g o. absurd (o (omega arith)) }

  -- both list words are cleared
  clears
      : {A : Type 0} (f : Unit {0} → Prog A) {Q : A → Memory → Type 0} {M : Memory} (a b : ℕ) → AllModulesShow C (λ _ _. None) (λ _. a) (λ _. b) M
      → ((N : Memory) → AllModulesShow C (λ _ _. None) (λ _. 0) (λ _. 0) N → Does (Area m) (f tt) Q N)
      → Does (Area m) (set_field (base_of m.load_call) next_cro 0 >>= λ _. set_field (base_of m.load_call) previous_cro 0 >>= f) Q M
  clears f a b w next =
      does_then (Area m) (set_field (base_of m.load_call) next_cro 0) _
      (does_wider (All C sound_alone) (Area m) (λ q s. s.2) (sets_next C sound_alone 0 0 (lit< tt) w))
      (λ _ N g.
      does_then (Area m) (set_field (base_of m.load_call) previous_cro 0) f
      (does_wider (All C sound_alone) (Area m) (λ q s. s.2) (sets_previous C sound_alone 0 0 (lit< tt) g.0))
      (λ _ L h. next L (record { stands = λ k l. cleared h.0 k l })))
    where
      cleared : {L : Memory} → AllModulesShow C (λ _ _. None) (put (λ _. a) 0 0) (put (λ _. b) 0 0) L → (k : ℕ) → k < 1 → Stands m T (λ _. None) 0 0 L
      cleared t zero l = rw (put_same (λ _. a) 0 0, put_same (λ _. b) 0 0) at (t.stands 0 l)
      cleared t (suc k) l = absurd (omega arith)

  listed-alone : (b : ℕ → ℕ) → ListWords b 1 (λ _. 0) (λ _. 0)
  unfolding previous_in
  listed-alone b =
      record { nexts = λ k l. sym (next_last b 1 k (omega arith)); previouses = λ k l. let z : k ≡ 0 = omega arith in rw z refl }

-- the CRS is no exporter to itself
resolved_alone : (base size : ℕ) (f : ℕ → ℕ)
    → LinksResolved 1 (λ _. record { load_call = initialized base size; file = f }) (record { load_call = initialized base size; file = f }) (λ _. None)
unfolding Exporter
resolved_alone base size f =
    record { found = λ i l e b k g p h. absurd (h.1 refl refl); missing = λ i l e b o. refl; others = λ e o. refl }

module _ (base size : ℕ) (f : ℕ → ℕ) where
  abbrev m : Image
  m = record { load_call = initialized base size; file = f }

  book_alone : (T : Memory) (r : Register) → r.modules ≡ [] → (k : Module) → Recorded m k → RegisterMatches (alone m T) (with_crs (appended r k) base)
  unfolding with_crs appended RecordedAll
  book_alone T r e k rec = record { recorded = rw e (rec, tt); many = rw e refl; crs = refl }

  -- the CRS stands alone, if it is not refused
  pub starts
      : (laid : WellLaid m) (low : Low (Area m)) → ((o : ℕ) → o < size → f o < 256) → base ≢ 0 → {B : Memory} → AsInFile m B → (r : Register)
      → r.modules ≡ [] → (recordRoom name_room : ℕ) → Does (Area m) (calls.initialize base size recordRoom name_room r) (Begun m B) B
  unfolding calls.initialize calls.initialized Begun
  starts laid low bytes nonzero {B} fresh r none_yet recordRoom name_room =
      brings S (Begun m B) m laid low bytes (λ q s. s) recordRoom name_room r true (calls.initialized r base) (rebase_static base)
      (rebased_static base size f laid low fresh) refuses after
    where
      S : ℕ → Type 0
      S = Area m

      refuses : Refuses (Begun m B) m B
      refuses a N (inl e) k = rw e tt
      refuses a N (inr e) k = rw e tt

      joins : (N : Memory) → Brought m (rebase_static base) B N → (k : Module) → Recorded m k → (fit : Bool)
          → Does S (if fit then calls.initialized r base k else ret (Refused NoRoom)) (Begun m B) N
      joins N g k rec false = does_ret S tt
      joins N g k rec true =
          clears m laid low g.loaded_modules.view _ (word f next_cro) (word f previous_cro) (record { stands = λ j l. g.loaded_modules.stands })
          (λ L w.
          does_ret S
          (record {
            rest = N;
            linked_state =
                record {
                  sound = sound_alone m laid low g.loaded_modules.view;
                  some = lit< tt;
                  nonzero = λ j l. nonzero;
                  modules_show = w;
                  listed = listed-alone m laid low g.loaded_modules.view (λ _. base);
                  links = λ j l. resolved_alone base size f;
                };
            register_matches = book_alone N r none_yet k rec;
            bytes = g.bytes;
            alike = g.alike;
          }))

      after : (N : Memory) → Brought m (rebase_static base) B N
          → Does S (recorded recordRoom name_room r base size true (calls.initialized r base)) (Begun m B) N
      after N g =
          does_then S (read_module base size true) _ (records m laid low g.loaded_modules.view size)
          (λ k M h. rw h.2 (joins N g k h.0 (fits recordRoom name_room r k)))
