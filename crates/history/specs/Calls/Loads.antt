-- `load` of a well-laid module: a refusal, or one module more, all listed again and all links at rest.
use Prim.Native.Nat.{ℕ, suc, ◌^◌, ◌<◌}
use Rattle.std.specs.Prelude.{if◌then◌else◌, ◌≡◌, refl, ◌≢◌, List, Bool, false, Some, None}
use Rattle.std.proofs.Common.{sym, ◌∙◌, inl, inr, arith}
use Rattle.std.proofs.Math.Path.{ap}
use Rattle.std.proofs.Math.Bool.{true}
use Rattle.std.proofs.Math.Decide.{ℕ_discrete}
use Rattle.window.specs.Access.{ret}
use Rattle.window.specs.Within.{Low, Agree}
use Rattle.window.specs.Mirror.{word}
use Rattle.layout.specs.Header.{next_cro, previous_cro}
use Rattle.register.specs.Module.{Module, Register}
use Rattle.register.specs.Change.{appended}
use Rattle.linker_spec.specs.declared.rebase.LoadArguments.{LoadArguments}
use Rattle.linker_spec.specs.Exports.{read_module}
use Rattle.linker_spec.specs.Calls as calls
use Rattle.linker_spec.specs.Calls.{Answer, Done, fits, rebase, missing_now, linked, Refused}
use Rattle.linker_spec.specs.declared.refusal.Refusal.TheVariants.{NoRoom}
use Rattle.history.specs.Below.{length_more}
use Rattle.history.specs.Image.{module_name}
use Rattle.history.specs.LoadedModule.{loaded, Image, base_of, Area}
use Rattle.history.specs.Imports.{Import, Exports}
use Rattle.history.specs.WellLaid.{WellLaid}
use Rattle.history.specs.Steps.Wp.{Memory, Does, does_ret, does_then, does_wider}
use Rattle.history.specs.Steps.ModuleBytes.{shows_agree}
use Rattle.history.specs.Steps.Links.{Links, Stands}
use Rattle.history.specs.Steps.AllModulesShow.{Modules, AllModulesShow, put, put_same, put_other}
use Rattle.history.specs.Steps.Listing.{ListWords}
use Rattle.history.specs.Steps.Records.{Recorded}
use Rattle.history.specs.Steps.Recording.{records}
use Rattle.history.specs.Steps.LinksResolved.{LinksResolved}
use Rattle.history.specs.Steps.Own.{RecordedAll}
use Rattle.history.specs.Steps.Fixing.{fixed_at, fixed_view, fixed_agree}
use Rattle.history.specs.Rebase.Header.{AsInFile}
use Rattle.history.specs.Rebase.Rebased.{rebased}
use Rattle.history.specs.Rebase.Arrives.{Arrived, Refuses, recorded}
use Rattle.history.specs.Calls.LinkedState.{base_in, LinkedState, RegisterMatches, AtRest, extended, image_new, image_old, rest-new, each, more_sound, Listed-same, resolved_same, recorded-same}
use Rattle.history.specs.Calls.Linked.{recorded_more, fixed_modules, links_in}
use Rattle.history.specs.Calls.Bringing.{brought, Brought, brings}

-- the bytes at rest of a module that is loaded over the memory B
unfoldable pub rest_of : LoadArguments → Image → ℕ → Memory → Memory
rest_of l m level B = fixed_at m level (brought (rebase l) l.base B)

-- m stands beside those of C; its bytes at rest are what the bytes before the call say, those of its areas alone
pub record LoadSucceeded (C : Modules) (l : LoadArguments) (m : Image) (level : ℕ) (B : Memory) (s : Register) (N : Memory) : Type 0 where
  pub rest : Memory
  pub joined : AtRest (extended C m rest) s N
  pub bytes : rest ≡ rest_of l m level B
  pub alike : (D : Memory) → Agree (Area m) B D → Agree (Area m) rest (rest_of l m level D)

-- what is said of the answer
unfoldable pub LoadAnswered : Modules → LoadArguments → Image → ℕ → Memory → Answer → Memory → Type 0
LoadAnswered C l m level B (Done v s) N = LoadSucceeded C l m level B s N
LoadAnswered C l m level B (Refused refusal) N = Unit {0}
LoadAnswered C l m level B Answer.NotLoaded N = Unit {0}

-- the areas of all and of the new one
abbrev pub Reach : Modules → Image → ℕ → Type 0
Reach C m q = (k : ℕ) × (k < suc C.number) × Area (put C.image C.number m k) q

-- of all with the new one, only one exports to an import
abbrev pub Once : ℕ → (ℕ → Image) → Type 0
Once n x = (t : ℕ) → t < n → (i : Import) (j k p q : ℕ) → j < n → k < n → Exports (x j) (x t) i p → Exports (x k) (x t) i q → j ≡ k

-- and no two have one name
abbrev pub DistinctNames : ℕ → (ℕ → Image) → Type 0
DistinctNames n x = (j k : ℕ) → j < n → k < n → module_name (x j).file ≡ module_name (x k).file → j ≡ k

module _ (C : Modules) (m : Image) (laid : WellLaid m) (low : Low (Area m))
    (off : (k q : ℕ) → k < C.number → Area (C.image k) q → Area m q → ⊥) {φ : ℕ → Links} {x y : ℕ → ℕ} {B : Memory} (linked_state : LinkedState C φ x y B) where
  abbrev n : ℕ
  n = C.number

  -- the new one stands beside the others, without links
  modules_show_new
      : (N : Memory) → Arrived m B N
      → AllModulesShow (extended C m N) (put φ n (λ _. None)) (put x n (word m.file next_cro)) (put y n (word m.file previous_cro)) N
  modules_show_new N h =
      record {
        stands =
            each C m N
            (λ k z U. Stands z U (put φ n (λ _. None) k) (put x n (word m.file next_cro) k) (put y n (word m.file previous_cro) k) N) old
            (rw (put_same φ n (λ _. None), put_same x n (word m.file next_cro), put_same y n (word m.file previous_cro)) h.stands);
      }
    where
      old : (k : ℕ) → k < n
          → Stands (C.image k) (C.rest k) (put φ n (λ _. None) k) (put x n (word m.file next_cro) k) (put y n (word m.file previous_cro) k) N
      old k l =
          let o : k ≢ n = λ e. absurd (omega (arith, e)) in
          rw (put_other φ n (λ _. None) k o, put_other x n (word m.file next_cro) k o, put_other y n (word m.file previous_cro) k o)
          (record {
            shows =
                shows_agree (C.image k) (linked_state.sound.laid k l) (λ q s. sym (h.outside q (λ u. off k q l s u))) (linked_state.modules_show.stands k l).shows;
          })

  module _ (T : Memory) where
    abbrev E : Modules
    E = extended C m T

    old_base : (k : ℕ) → k < n → base_in C k ≡ base_in E k
    old_base k l = ap (λ z. base_of z.load_call) (sym (image_old C m T k l))

    listed-old : (a b : ℕ) → ListWords (base_in E) n (put x n a) (put y n b)
    listed-old a b =
        Listed-same n old_base (λ k l. sym (put_other x n a k (λ e. absurd (omega (arith, e)))))
        (λ k l. sym (put_other y n b k (λ e. absurd (omega (arith, e))))) linked_state.listed

    resolved_old : (ψ : Links) (j : ℕ) → j < n → LinksResolved n E.image (E.image j) (put φ n ψ j)
    resolved_old ψ j l =
        rw (put_other φ n ψ j (λ e. absurd (omega (arith, e))), image_old C m T j l)
        (resolved_same n (λ k g. sym (image_old C m T k g)) (linked_state.links j l))

    new_nonzero : base_of m.load_call ≢ 0 → (k : ℕ) → k < suc n → base_in E k ≢ 0
    new_nonzero z = each C m T (λ k x U. base_of x.load_call ≢ 0) linked_state.nonzero z

    module _ (r : Register) (register_matches : RegisterMatches C r) where
      old-recorded : RecordedAll E.image r.modules
      old-recorded =
          recorded-same C.image E.image r.modules (λ k l. sym (image_old C m T k (rw register_matches.many at l))) register_matches.recorded

      old-crs : r.crs ≡ Some (base_in E 0)
      old-crs = register_matches.crs ∙ ap Some (old_base 0 linked_state.some)

      book_new : (k : Module) → Recorded m k → (missing : List (List ℕ)) → RegisterMatches E (missing_now (appended r k) missing)
      unfolding missing_now appended
      book_new k rec missing =
          record {
            recorded = recorded_more E.image r.modules k old-recorded (rw (register_matches.many, image_new C m T) rec);
            many = length_more r.modules k ∙ ap suc register_matches.many;
            crs = old-crs;
          }

  -- the new one fixed, said of the cast
  modules_again
      : (level : ℕ) (N : Memory) {ψ : ℕ → Links} {u v : ℕ → ℕ} {L : Memory} → AllModulesShow (fixed_modules (extended C m N) n level) ψ u v L
      → AllModulesShow (extended C m (fixed_at m level N)) ψ u v L
  modules_again level N w = record { stands = λ k l. rw (← same k (ℕ_discrete k n)) (w.stands k l) }
    where
      E : Modules
      E = extended C m N

      same : (k : ℕ) → Dec (k ≡ n) → (fixed_modules E n level).rest k ≡ (extended C m (fixed_at m level N)).rest k
      same k (yes e) =
          rw e
          (put_same E.rest n (fixed_at (E.image n) level (E.rest n))
          ∙ ap (λ z. fixed_at z level (E.rest n)) (image_new C m N)
          ∙ ap (fixed_at m level) (rest-new C m N)
          ∙ sym (rest-new C m (fixed_at m level N)))
      same k (no o) =
          put_other E.rest n (fixed_at (E.image n) level (E.rest n)) k o
          ∙ put_other C.rest n N k o
          ∙ sym (put_other C.rest n (fixed_at m level N) k o)

module _ (C : Modules) (l : LoadArguments) (auto : Bool) (level : ℕ) (f : ℕ → ℕ) where
  abbrev m : Image
  m = record { load_call = loaded l auto level; file = f }

  abbrev images : ℕ → Image
  images = put C.image C.number m

  -- a load leaves all at rest, if it is not refused
  pub loads
      : (laid : WellLaid m) (low : Low (Area m)) → ((o : ℕ) → o < l.size → f o < 256) → l.data_segment < 2 ^ 32 → l.bss_segment < 2 ^ 32
      → ((k q : ℕ) → k < C.number → Area (C.image k) q → Area m q → ⊥) → l.base ≢ 0 → level ≢ 2 → level ≢ 3
      → Once (suc C.number) images → DistinctNames (suc C.number) images → {φ : ℕ → Links} {x y : ℕ → ℕ} {B : Memory} → LinkedState C φ x y B → (r : Register)
      → RegisterMatches C r → AsInFile m B → (recordRoom name_room : ℕ)
      → Does (Reach C m) (calls.load l true level recordRoom name_room r) (LoadAnswered C l m level B) B
  unfolding calls.load LoadAnswered rest_of
  loads laid low bytes data-low bss-low off nonzero c d once names {φ} {x} {y} {B} linked_state r register_matches fresh recordRoom name_room =
      brings S Q m laid low bytes inside recordRoom name_room r true (linked r l true level) (rebase l)
      (rebased l auto level f laid low bytes data-low bss-low fresh) refuses after
    where
      S : ℕ → Type 0
      S = Reach C m

      Q : Answer → Memory → Type 0
      Q = LoadAnswered C l m level B

      inside : (q : ℕ) → Area m q → S q
      inside q s = (C.number, omega arith, rw (put_same C.image C.number m) s)

      refuses : Refuses Q m B
      refuses a N (inl e) k = rw e tt
      refuses a N (inr e) k = rw e tt

      came
          : (N : Memory) → Brought m (rebase l) B N → (k : Module) → Recorded m k → (missing : List (List ℕ)) (L : Memory)
          (ψ : ℕ → Links) (u v : ℕ → ℕ) → AllModulesShow (fixed_modules (extended C m N) C.number level) ψ u v L
          → ListWords (base_in (extended C m N)) (suc C.number) u v
          → ((j : ℕ) → j < suc C.number → LinksResolved (suc C.number) images (images j) (ψ j))
          → LoadSucceeded C l m level B (missing_now (appended r k) missing) L
      came N g k rec missing L ψ u v w h rest =
          let T = fixed_at m level N in
          record {
            rest = T;
            joined =
                record {
                  links = ψ;
                  next = u;
                  previous = v;
                  linked_state =
                      record {
                        sound = more_sound C m T linked_state.sound laid low (fixed_view m laid low level c d g.loaded_modules.view) off;
                        some = omega arith;
                        nonzero = new_nonzero C m laid low off linked_state T nonzero;
                        modules_show = modules_again C m laid low off linked_state level N w;
                        listed = h;
                        links = rest;
                      };
                  register_matches = book_new C m laid low off linked_state T r register_matches k rec missing;
                };
            bytes = ap (fixed_at m level) g.bytes;
            alike = λ D a. fixed_agree m laid low level c d N (brought (rebase l) l.base D) (g.alike D a);
          }

      joins : (N : Memory) → Brought m (rebase l) B N → (k : Module) → Recorded m k → (fit : Bool)
          → Does S (if fit then linked r l true level k else ret (Refused NoRoom)) Q N
      joins N g k rec false = does_ret S tt
      joins N g k rec true =
          let new = image_new C m N in
          links_in (extended C m N) (more_sound C m N linked_state.sound laid low g.loaded_modules.view off)
          (new_nonzero C m laid low off linked_state N nonzero) C.number refl linked_state.some (rw new refl) once names r
          (old-recorded C m laid low off linked_state N r register_matches) register_matches.many (old-crs C m laid low off linked_state N r register_matches) k (rw new rec) l (rw new refl)
          (rw new refl) level c d {Q = Q} (λ fixed missing L ψ u v w h rest. came N g k rec missing L ψ u v w h rest)
          (put_same φ C.number (λ _. None)) (resolved_old C m laid low off linked_state N (λ _. None)) (modules_show_new C m laid low off linked_state N g.loaded_modules)
          (listed-old C m laid low off linked_state N (word f next_cro) (word f previous_cro))

      after : (N : Memory) → Brought m (rebase l) B N → Does S (recorded recordRoom name_room r l.base l.size true (linked r l true level)) Q N
      after N g =
          does_then S (read_module l.base l.size true) _ (does_wider (Area m) S inside (records m laid low g.loaded_modules.view l.size))
          (λ k M h. rw h.0.2 (joins N g k h.0.0 (fits recordRoom name_room r k)))
