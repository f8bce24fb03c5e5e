-- Words of command buffers, what they ask for, and replies: each definition is opened here.
use Rattle.std.proofs.Common.{◌≡◌, ℕ, zero, suc, ◌-◌, ◌*◌, ◌%◌, ◌<◌, ◌≤◌, Bool, true, false, eqb, ◌⊎◌, List, [], ◌∷◌, sym, refl, ap, ◌∙◌, inl, inr, ⊎_elim, arith, ne_eqb}
use Rattle.window.specs.Memory.{◌⊕◌, word_at, put_word}
use Rattle.window.specs.Access.{get32, put32}
use Rattle.window.specs.Trace.{State, rd32, run_t, wr32-put}
use Rattle.linker_spec.specs.declared.call.Call.{Call}
use Rattle.linker_spec.specs.declared.call.Call.TheVariants.{Initialize, Load, Unload}
use Rattle.linker_spec.specs.declared.rebase.LoadArguments.{LoadArguments}
use Rattle.linker_spec.specs.Outcome.{load_arguments}
use Rattle.desk_spec.specs.declared.command.Command.{Command}
use Rattle.desk_spec.specs.declared.command.Command.TheVariants.{Elsewhere, Acknowledged, Unknown}
use Rattle.desk_spec.specs.Command.{buffer_word, in_place, initialize_asked, load_asked, command_of, id_at, command_at, done_reply, loaded_reply, error_reply, reply_to, replied}

-- accesses whose trace nobody reads

pub word_read
    : (at : ℕ) (w trace trace' : List ℕ) (p i : ℕ) {x v : ℕ} → x ≡ p ⊕ 4 * i
    → ◌≡◌ {A = ℕ × State} (v, (w, trace')) (run_t at (get32 x) (w, trace)) → v ≡ buffer_word at w p i
unfolding run_t rd32 buffer_word
word_read at w trace trace' p i e read = ap (λ (y : ℕ × State). y.0) read ∙ ap (word_at at w) e

pub word-written
    : (at : ℕ) (w w' trace trace' : List ℕ) (p i v : ℕ) {x : ℕ} → x ≡ p ⊕ 4 * i
    → ◌≡◌ {A = State} (w', trace') (run_t at (put32 x v) (w, trace)).1 → w' ≡ put_word at w (p ⊕ 4 * i) v
unfolding run_t
word-written at w w' trace trace' p i v {x} e written =
    ap (λ (y : State). y.0) (written ∙ wr32-put at w trace x v) ∙ ap (λ y. put_word at w y v) e

-- what is asked for

pub in_place_0 : (source address : ℕ) → address ≡ 0 → true ≡ in_place source address
unfolding in_place
in_place_0 source address e = rw e

pub in_place_source : (source address : ℕ) → (address ≡ 0 → ⊥) → eqb address source ≡ in_place source address
unfolding in_place
in_place_source source address n = rw (ne_eqb address 0 n)

module _ (word : ℕ → ℕ) {source address : ℕ} {here : Bool} (s : source ≡ word 1) (h : here ≡ in_place source address) where
  pub initialize-elsewhere : address ≡ word 3 → here ≡ false → Elsewhere ≡ initialize_asked word
  unfolding initialize_asked
  initialize-elsewhere a e = rw (← s, ← a, ← h, e)

  pub initialize_here : address ≡ word 3 → here ≡ true → {size : ℕ} → size ≡ word 2 → Command.Call (Initialize source size) ≡ initialize_asked word
  unfolding initialize_asked
  initialize_here a e z = rw (← s, ← a, ← h, e, ← z)

  pub load-elsewhere : address ≡ word 2 → here ≡ false → Elsewhere ≡ load_asked word
  unfolding load_asked
  load-elsewhere a e = rw (← s, ← a, ← h, e)

  pub load_here
      : address ≡ word 2 → here ≡ true → {size dataSegment data_size bss bss_size auto level : ℕ} → size ≡ word 3 → dataSegment ≡ word 4 → data_size ≡ word 6
      → bss ≡ word 7 → bss_size ≡ word 8 → auto ≡ word 9 → level ≡ word 10
      → Command.Call (Load (load_arguments source size dataSegment data_size bss bss_size) (auto % 256) level) ≡ load_asked word
  unfolding load_asked
  load_here a e e3 e4 e6 e7 e8 e9 e10 = rw (← s, ← a, ← h, e, ← e3, ← e4, ← e6, ← e7, ← e8, ← e9, ← e10)

-- the command by its id; the compiler asks for 2, 3, 6, 7, 8 as what is left between 2 and 8
acknowledged : (word : ℕ → ℕ) (k : ℕ) → k ≤ 6 → (k ≡ 2 → ⊥) → (k ≡ 3 → ⊥) → Acknowledged ≡ command_of (suc (suc k)) word
unfolding command_of
acknowledged word zero h n4 n5 = refl
acknowledged word (suc zero) h n4 n5 = refl
acknowledged word (suc (suc zero)) h n4 n5 = absurd (n4 refl)
acknowledged word (suc (suc (suc zero))) h n4 n5 = absurd (n5 refl)
acknowledged word (suc (suc (suc (suc zero)))) h n4 n5 = refl
acknowledged word (suc (suc (suc (suc (suc zero))))) h n4 n5 = refl
acknowledged word (suc (suc (suc (suc (suc (suc zero)))))) h n4 n5 = refl
acknowledged word (suc (suc (suc (suc (suc (suc (suc k))))))) h n4 n5 = absurd (omega arith)

module _ (at : ℕ) (w : List ℕ) (p : ℕ) {id : ℕ} (is-id : id ≡ id_at at w p) where
  by_id : {n : ℕ} → id ≡ n → command_of n (buffer_word at w p) ≡ command_at at w p
  unfolding command_at
  by_id e = ap (λ n. command_of n (buffer_word at w p)) (sym e ∙ is-id)

  pub asks_initialize : {c : Command} → id ≡ 1 → c ≡ initialize_asked (buffer_word at w p) → c ≡ command_at at w p
  unfolding command_of
  asks_initialize e h = h ∙ by_id e

  pub asks_load : {c : Command} → (id ≡ 4) ⊎ (id ≡ 9) → c ≡ load_asked (buffer_word at w p) → c ≡ command_at at w p
  unfolding command_of
  asks_load e h = ⊎_elim (λ e4. h ∙ by_id e4) (λ e9. h ∙ by_id e9) e

  pub asks_unload : {base : ℕ} → id ≡ 5 → base ≡ buffer_word at w p 1 → Command.Call (Unload base) ≡ command_at at w p
  unfolding command_of
  asks_unload e h = ap (λ base. Command.Call (Unload base)) h ∙ by_id e

  pub asks_nothing
      : 2 ≤ id → id ≤ 8 → ((id ≡ 4) ⊎ (id ≡ 9) → ⊥) → (id ≡ 5 → ⊥) → Acknowledged ≡ command_at at w p
  asks_nothing l h n4 n5 =
      acknowledged (buffer_word at w p) (id - 2) (omega arith) (λ z. n4 (inl (omega arith))) (λ z. n5 (omega arith)) ∙ by_id (omega arith)

  pub asks_unknown
      : (id ≡ 1 → ⊥) → ((id ≡ 4) ⊎ (id ≡ 9) → ⊥) → (id ≡ 5 → ⊥) → (id < 2) ⊎ (8 < id) → Unknown ≡ command_at at w p
  unfolding command_at command_of
  asks_unknown n1 n4 n5 far =
      rw (← is-id)
      (simp (
        ne_eqb id 1 n1,
        ne_eqb id 4 (λ e. n4 (inl e)),
        ne_eqb id 9 (λ e. n4 (inr e)),
        ne_eqb id 5 n5,
        ne_eqb id 2 (λ e. ⊎_elim (λ l. omega arith) (λ g. omega arith) far),
        ne_eqb id 3 (λ e. ⊎_elim (λ l. omega arith) (λ g. omega arith) far),
        ne_eqb id 6 (λ e. ⊎_elim (λ l. omega arith) (λ g. omega arith) far),
        ne_eqb id 7 (λ e. ⊎_elim (λ l. omega arith) (λ g. omega arith) far),
        ne_eqb id 8 (λ e. ⊎_elim (λ l. omega arith) (λ g. omega arith) far),
      ))

-- replies

pub replied_2
    : (at p : ℕ) (w₀ w₁ w₂ : List ℕ) (a b : ℕ) → w₁ ≡ put_word at w₀ (p ⊕ 4 * 0) a → w₂ ≡ put_word at w₁ (p ⊕ 4 * 1) b
    → w₂ ≡ replied at w₀ p 0 (a ∷ b ∷ [])
unfolding replied
replied_2 at p w₀ w₁ w₂ a b e f = f ∙ ap (λ w. put_word at w (p ⊕ 4 * 1) b) e

pub replied_3
    : (at p : ℕ) (w₀ w₁ w₂ w₃ : List ℕ) (a b c : ℕ) → w₁ ≡ put_word at w₀ (p ⊕ 4 * 0) a → w₂ ≡ put_word at w₁ (p ⊕ 4 * 1) b
    → w₃ ≡ put_word at w₂ (p ⊕ 4 * 2) c → w₃ ≡ replied at w₀ p 0 (a ∷ b ∷ c ∷ [])
unfolding replied
replied_3 at p w₀ w₁ w₂ w₃ a b c e f g = g ∙ ap (λ w. put_word at w (p ⊕ 4 * 2) c) (f ∙ ap (λ w. put_word at w (p ⊕ 4 * 1) b) e)

module _ (id number value : ℕ) {call : Call} where
  pub initialize-refused : {base size : ℕ} → call ≡ Initialize base size → (number ≡ 0 → ⊥) → error_reply id ≡ reply_to call id number value
  unfolding reply_to
  initialize-refused e n = rw (e, ne_eqb number 0 n)

  pub initialize-done : {base size : ℕ} → call ≡ Initialize base size → number ≡ 0 → done_reply id ≡ reply_to call id number value
  unfolding reply_to
  initialize-done e z = rw (e, z)

  pub load-refused : {l : LoadArguments} {auto level : ℕ} → call ≡ Load l auto level → (number ≡ 0 → ⊥) → error_reply id ≡ reply_to call id number value
  unfolding reply_to
  load-refused e n = rw (e, ne_eqb number 0 n)

  pub load-done : {l : LoadArguments} {auto level : ℕ} → call ≡ Load l auto level → number ≡ 0 → loaded_reply id value ≡ reply_to call id number value
  unfolding reply_to
  load-done e z = rw (e, z)

  pub unload-done : {base : ℕ} → call ≡ Unload base → done_reply id ≡ reply_to call id number value
  unfolding reply_to
  unload-done e = rw e
