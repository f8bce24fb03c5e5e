-- What a run keeps of window and trace: lengths, the first touch, and all of the trace where every access lies inside.
use Rattle.std.specs.Prelude.{if◌then◌else◌, ◌≡◌, ℕ, zero, suc, ◌+◌, ◌/◌, ◌^◌, ◌<◌, ◌≤◌, Bool, true, false, ◌≢◌, ◌⊎◌, List, length}
use Rattle.std.proofs.Math.Path.{refl, ap}
use Rattle.std.proofs.Common.{◌∙◌, lt-ltb, ne_eqb}
use Rattle.std.proofs.Math.Logic.{inr}
use native.Mathlib.Omega.{arith}
use Rattle.window.specs.Memory.{place, inside, byte_at, word_at, put_byte, put_word, put_privileged}
use Rattle.window.specs.Bytes.{length-put_byte, put_bytes_keeps, put_upward_keeps, Whole, word_at-same, word_at-apart}
use Rattle.window.specs.Access.{Prog, ret, read8, read32, write8, write32, write_privileged, run, Reads}
use Rattle.window.specs.Within.{Within, Lies, Four}
use Rattle.window.specs.Trace.{State, outside, said, noted, saw, seen, store_t, stores_t, upward_t, rd8, rd32, wr8, wr32, wr_p, run_t, touch_of, wr32-put, wr_p-put}

-- no log is kept
abbrev pub quiet : List ℕ → Type 0
quiet t = word_at 0 t 0 ≡ 0

pub touched_said : (t : List ℕ) → (touch_of t).0 ≢ 0 → said t ≡ true
unfolding touch_of said
touched_said t n = rw (ne_eqb (word_at 0 t 4) 0 n)

-- a yes is 1, beside an address; "0 stands beside a no"
abbrev pub YesOrNo : ℕ × ℕ → Type 0
YesOrNo touch = (touch ≡ (0, 0)) ⊎ ((touch.0 ≡ 1) × (touch.1 < 2 ^ 32))

if_keeps : {A : Type 0} (P : A → Type 0) (b : Bool) {x y : A} → P x → P y → P (if b then x else y)
if_keeps P true h g = h
if_keeps P false h g = g

-- words 1 and 2 share no byte with word 0
apart : (n : ℕ) → 4 ≤ n → n ≤ 8 → (4 ≤ place n 0) × (4 ≤ place 0 n)
unfolding place
apart n h g = (omega arith, omega arith)

module _ (at : ℕ) where
  module _ (P : State → Type 0) (see : (s : State) (x k : ℕ) → P s → P (seen at s x k)) (store : (s : State) (x v : ℕ) → P s → P (store_t at s x v)) where
    stores : (n : ℕ) (s : State) (x v : ℕ) → P s → P (stores_t at n s x v)
    unfolding stores_t
    stores zero s x v h = h
    stores (suc n) s x v h = stores n (store_t at s x v) (x + 1) (v / 256) (store s x v h)

    upward : (n : ℕ) (s : State) (x v : ℕ) → P s → P (upward_t at n s x v)
    unfolding upward_t
    upward zero s x v h = h
    upward (suc n) s x v h =
        if_keeps P (inside at s.0 x) (upward n (store_t at s x v) (x + 1) (v / 256) (store s x v h)) h

    -- what looking and storing one byte keep, every run keeps
    pub run_t_keeps : {A : Type 0} (m : Prog A) (s : State) → P s → P (run_t at m s).1
    unfolding run_t rd8 rd32 wr8 wr32 wr_p
    run_t_keeps (ret a) s h = h
    run_t_keeps (read8 p k) s h = run_t_keeps (k (byte_at at s.0 p)) (seen at s p 1) (see s p 1 h)
    run_t_keeps (read32 p k) s h = run_t_keeps (k (word_at at s.0 p)) (seen at s p 4) (see s p 4 h)
    run_t_keeps (write8 p v k) s h = run_t_keeps k (wr8 at s p v) (store (seen at s p 1) p v (see s p 1 h))
    run_t_keeps (write32 p v k) s h = run_t_keeps k (wr32 at s p v) (stores 4 (seen at s p 4) p v (see s p 4 h))
    run_t_keeps (write_privileged p v k) s h = run_t_keeps k (wr_p at s p v) (upward 4 (seen at s p 4) p v (see s p 4 h))

  saw_keeps : (P : List ℕ → Type 0) (n x k : ℕ) (t : List ℕ) → P t → P (put_word 0 (put_word 0 t 4 1) 8 x) → P (saw at n x k t)
  unfolding saw noted
  saw_keeps P n x k t h g = if_keeps P (outside at n x k) (if_keeps P (said t) h g) h

  length-word : (t : List ℕ) (x v : ℕ) → length (put_word 0 t x v) ≡ length t
  unfolding put_word
  length-word t x v = put_bytes_keeps (λ u. length u ≡ length t) 0 (λ u y z e. length-put_byte 0 u y z ∙ e) 4 t x v refl

  pub length_t
      : {A : Type 0} (m : Prog A) (s : State) → (length (run_t at m s).1.0 ≡ length s.0) × (length (run_t at m s).1.1 ≡ length s.1)
  unfolding store_t
  length_t m s =
      run_t_keeps (λ u. (length u.0 ≡ length s.0) × (length u.1 ≡ length s.1))
      (λ u x k h. (
        h.0,
        saw_keeps (λ t. length t ≡ length s.1) (length u.0) x k u.1 h.1
            (length-word (put_word 0 u.1 4 1) 8 x ∙ length-word u.1 4 1 ∙ h.1),
      ))
      (λ u x v h. (length-put_byte at u.0 x v ∙ h.0, h.1))
      m s (refl, refl)

  -- by which a function that meets its contract leaves its trace as long as it was
  pub trace_kept : {A : Type 0} (m : Prog A) (w t : List ℕ) {v u : List ℕ} → ◌≡◌ {A = State} (v, u) (run_t at m (w, t)).1 → length u ≡ length t
  trace_kept m w t h = ap (λ (s : State). length s.1) h ∙ (length_t m (w, t)).1

  -- the first touch stands
  pub saw-said : (n x k : ℕ) (t : List ℕ) → said t ≡ true → saw at n x k t ≡ t
  unfolding saw noted
  saw-said n x k t e = rw e (same (outside at n x k))
    where
      same : (b : Bool) → (if b then t else t) ≡ t
      same true = refl
      same false = refl

  pub silent : {A : Type 0} (m : Prog A) (w t : List ℕ) → quiet t → said t ≡ true → (run_t at m (w, t)).1.1 ≡ t
  unfolding store_t
  silent m w t q e =
      run_t_keeps (λ u. u.1 ≡ t) (λ u x k h. rw h (saw-said (length u.0) x k t e)) (λ u x v h. h) m (w, t) refl

  -- without a log: what `run` gives and leaves
  erased : {A : Type 0} (m : Prog A) (s : State) → ((run_t at m s).0, (run_t at m s).1.0) ≡ run at m s.0
  unfolding run_t run rd8 rd32 wr8 store_t
  erased (ret a) s = refl
  erased (read8 p k) s = erased (k (byte_at at s.0 p)) (seen at s p 1)
  erased (read32 p k) s = erased (k (word_at at s.0 p)) (seen at s p 4)
  erased (write8 p v k) s = erased k (wr8 at s p v)
  erased (write32 p v k) s =
      erased k (wr32 at s p v) ∙ ap (λ (u : State). run at k u.0) (wr32-put at s.0 s.1 p v)
  erased (write_privileged p v k) s =
      erased k (wr_p at s p v) ∙ ap (λ (u : State). run at k u.0) (wr_p-put at s.0 s.1 p v)

  pub erase
      : {A : Type 0} (m : Prog A) (w t : List ℕ) → quiet t
      → (((run_t at m (w, t)).0, (run_t at m (w, t)).1.0) ≡ run at m w) × quiet (run_t at m (w, t)).1.1
  unfolding store_t
  erase m w t o =
      let p = apart 8 (omega arith) (omega arith) in
      let q = apart 4 (omega arith) (omega arith) in (
        erased m (w, t),
        run_t_keeps (λ u. quiet u.1)
            (λ u x k h. saw_keeps quiet (length u.0) x k u.1 h
            (word_at-apart 0 (put_word 0 u.1 4 1) 8 x 0 p.0 p.1 ∙ word_at-apart 0 u.1 4 1 0 q.0 q.1 ∙ h))
            (λ u x v h. h) m (w, t) o,
      )

  noted_yes
      : (t : List ℕ) (x : ℕ) → 12 ≤ length t
      → (12 ≤ length (put_word 0 (put_word 0 t 4 1) 8 x)) × YesOrNo (touch_of (put_word 0 (put_word 0 t 4 1) 8 x))
  unfolding touch_of place
  noted_yes t x l =
      let u = put_word 0 t 4 1 in
      let n : length u ≡ length t = length-word t 4 1 in
      let yes-whole : Whole 0 t 4 = λ k i. omega arith in
      let start-whole : Whole 0 u 8 = λ k i. omega (arith, n) in (
        rw (length-word u 8 x, n) l,
        inr (
          word_at-apart 0 u 8 x 4 (omega arith) (omega arith) ∙ word_at-same 0 t 4 1 yes-whole,
          rw (word_at-same 0 u 8 x start-whole) (omega arith),
        ),
      )

  -- what is said is a yes or a no, in a trace that holds both words
  pub yes_or_no
      : {A : Type 0} (m : Prog A) (w t : List ℕ) → quiet t → 12 ≤ length t → YesOrNo (touch_of t) → YesOrNo (touch_of (run_t at m (w, t)).1.1)
  unfolding store_t
  yes_or_no m w t q l h =
      (run_t_keeps (λ u. (12 ≤ length u.1) × YesOrNo (touch_of u.1))
      (λ u x k g. saw_keeps (λ v. (12 ≤ length v) × YesOrNo (touch_of v)) (length u.0) x k u.1 g (noted_yes u.1 x g.0))
      (λ u x v g. g) m (w, t) (l, h)).1

  -- what only reads gives what `run` gives and leaves the window, log or not
  pub reads_run_t : {A : Type 0} (m : Prog A) (s : State) → Reads m → ((run_t at m s).0 ≡ (run at m s.0).0) × ((run_t at m s).1.0 ≡ s.0)
  unfolding run_t run rd8 rd32 Reads
  reads_run_t (ret a) s h = (refl, refl)
  reads_run_t (read8 p k) s h = reads_run_t (k (byte_at at s.0 p)) (seen at s p 1) (h (byte_at at s.0 p))
  reads_run_t (read32 p k) s h = reads_run_t (k (word_at at s.0 p)) (seen at s p 4) (h (word_at at s.0 p))
  reads_run_t (write8 p v k) s h = absurd h
  reads_run_t (write32 p v k) s h = absurd h
  reads_run_t (write_privileged p v k) s h = absurd h

  -- a reader to whom the trace is nothing
  pub peeked : {A : Type 0} (m : Prog A) (s : State) {a : A} {u : State} → Reads m → (a, u) ≡ run_t at m s → a ≡ (run at m s.0).0
  peeked {A} m s h e = ap (λ (r : A × State). r.0) e ∙ (reads_run_t m s h).0

  -- the first touch stands through what only reads, log or not
  pub silent_reads : {A : Type 0} (m : Prog A) (w t : List ℕ) → Reads m → said t ≡ true → (run_t at m (w, t)).1 ≡ (w, t)
  unfolding run_t rd8 rd32 Reads
  silent_reads (ret a) w t h e = refl
  silent_reads (read8 p k) w t h e =
      ap (λ t₁. (run_t at (k (byte_at at w p)) (w, t₁)).1) (saw-said (length w) p 1 t e)
      ∙ silent_reads (k (byte_at at w p)) w t (h (byte_at at w p)) e
  silent_reads (read32 p k) w t h e =
      ap (λ t₁. (run_t at (k (word_at at w p)) (w, t₁)).1) (saw-said (length w) p 4 t e)
      ∙ silent_reads (k (word_at at w p)) w t (h (word_at at w p)) e
  silent_reads (write8 p v k) w t h e = absurd h
  silent_reads (write32 p v k) w t h e = absurd h
  silent_reads (write_privileged p v k) w t h e = absurd h

  -- accesses that lie inside leave no touch

  all_in : (n x k : ℕ) → ((j : ℕ) → j < k → place at (x + j) < n) → outside at n x k ≡ false
  unfolding outside
  all_in n x zero h = refl
  all_in n x (suc k) h =
      let z : x + 0 ≡ x = omega arith in
      let i : place at x < n = rw z at (h 0 (omega arith)) in
      rw (lt-ltb (place at x) n i) (all_in n (x + 1) k (λ j l. let e : x + 1 + j ≡ x + suc j = omega arith in rw e (h (suc j) (omega arith))))

  saw-all_in : (n x k : ℕ) (t : List ℕ) → ((j : ℕ) → j < k → place at (x + j) < n) → saw at n x k t ≡ t
  unfolding saw
  saw-all_in n x k t h = rw (all_in n x k h)

  length-put : (w : List ℕ) (x v : ℕ) → length (put_word at w x v) ≡ length w
  unfolding put_word
  length-put w x v = put_bytes_keeps (λ u. length u ≡ length w) at (λ u y z e. length-put_byte at u y z ∙ e) 4 w x v refl

  length_put_p : (w : List ℕ) (x v : ℕ) → length (put_privileged at w x v) ≡ length w
  unfolding put_privileged
  length_put_p w x v = put_upward_keeps (λ u. length u ≡ length w) at (λ u y z e. length-put_byte at u y z ∙ e) 4 w x v refl

  module _ (X : ℕ → Type 0) (n : ℕ) (lies : Lies X at n) where
    one_in : (x : ℕ) → X x → (j : ℕ) → j < 1 → place at (x + j) < n
    one_in x h j l = let e : x + j ≡ x = omega arith in rw e (lies x h).1

    four_in : (x : ℕ) → Four X x → (j : ℕ) → j < 4 → place at (x + j) < n
    four_in x h j l = (lies (x + j) (h j l)).1

    pub within : {A : Type 0} (m : Prog A) (w t : List ℕ) → length w ≡ n → quiet t → Within X at m w → (run_t at m (w, t)).1.1 ≡ t
    unfolding run_t Within rd8 rd32 wr8 store_t
    within (ret a) w t l q h = refl
    within (read8 p k) w t l q h =
        ap (λ t₁. (run_t at (k (byte_at at w p)) (w, t₁)).1.1) (rw l (saw-all_in n p 1 t (one_in p h.0)))
        ∙ within (k (byte_at at w p)) w t l q h.1
    within (read32 p k) w t l q h =
        ap (λ t₁. (run_t at (k (word_at at w p)) (w, t₁)).1.1) (rw l (saw-all_in n p 4 t (four_in p h.0)))
        ∙ within (k (word_at at w p)) w t l q h.1
    within (write8 p v k) w t l q h =
        ap (λ t₁. (run_t at k (put_byte at w p v, t₁)).1.1) (rw l (saw-all_in n p 1 t (one_in p h.0)))
        ∙ within k (put_byte at w p v) t (length-put_byte at w p v ∙ l) q h.1
    within (write32 p v k) w t l q h =
        ap (λ (u : State). (run_t at k u).1.1) (wr32-put at w t p v)
        ∙ ap (λ t₁. (run_t at k (put_word at w p v, t₁)).1.1) (rw l (saw-all_in n p 4 t (four_in p h.0)))
        ∙ within k (put_word at w p v) t (length-put w p v ∙ l) q h.1
    within (write_privileged p v k) w t l q h =
        ap (λ (u : State). (run_t at k u).1.1) (wr_p-put at w t p v)
        ∙ ap (λ t₁. (run_t at k (put_privileged at w p v, t₁)).1.1) (rw l (saw-all_in n p 4 t (four_in p h.0)))
        ∙ within k (put_privileged at w p v) t (length_put_p w p v ∙ l) q h.1
