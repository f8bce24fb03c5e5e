-- A program on plain bytes: `Does S m Q M` says that its accesses lie in S and that Q holds of what it gives and of the bytes it leaves.
use Prim.Native.Nat.{ℕ, zero, suc, ◌+◌, ◌≤◌, ◌<◌}
use Rattle.std.specs.Prelude.{if◌then◌else◌, ◌≡◌, Bool}
use Rattle.std.proofs.Math.Path.{refl}
use Rattle.std.proofs.Common.{◌∙◌}
use Rattle.std.proofs.Math.Bool.{true, false}
use native.Mathlib.Omega.{arith}
use Rattle.window.specs.Access.{Prog, ret, read8, read32, write8, write32, write_privileged, ◌>>=◌, get8, get32, put8, put32, put32_privileged}
use Rattle.window.specs.Loop.{loop}
use Rattle.window.specs.Within.{Four, in_range}
use Rattle.window.specs.Mirror.{word, put1, put4, run_m, put1-off, put4-off}

abbrev pub Memory : Type 0
Memory = ℕ → ℕ

-- every access of the run lies in S
unfoldable pub WithinM : {A : Type 0} → (ℕ → Type 0) → Prog A → Memory → Type 0
WithinM S (ret a) M = Unit {0}
WithinM S (read8 p k) M = S p × WithinM S (k (M p)) M
WithinM S (read32 p k) M = Four S p × WithinM S (k (word M p)) M
WithinM S (write8 p v k) M = S p × WithinM S k (put1 M p v)
WithinM S (write32 p v k) M = Four S p × WithinM S k (put4 M p v)
WithinM S (write_privileged p v k) M = Four S p × WithinM S k (put4 M p v)

pub record Does {A : Type 0} (S : ℕ → Type 0) (m : Prog A) (Q : A → Memory → Type 0) (M : Memory) : Type 0 where
  pub lies : WithinM S m M
  pub gives : Q (run_m m M).0 (run_m m M).1

-- N is M but for bytes in X
abbrev pub SameOutside : (ℕ → Type 0) → Memory → Memory → Type 0
SameOutside X M N = (q : ℕ) → (X q → ⊥) → N q ≡ M q

pub run_m_bind
    : {A B : Type 0} (m : Prog A) (f : A → Prog B) (M : Memory) → run_m (m >>= f) M ≡ run_m (f (run_m m M).0) (run_m m M).1
unfolding run_m ◌>>=◌
run_m_bind (ret a) f M = refl
run_m_bind (read8 p k) f M = run_m_bind (k (M p)) f M
run_m_bind (read32 p k) f M = run_m_bind (k (word M p)) f M
run_m_bind (write8 p v k) f M = run_m_bind k f (put1 M p v)
run_m_bind (write32 p v k) f M = run_m_bind k f (put4 M p v)
run_m_bind (write_privileged p v k) f M = run_m_bind k f (put4 M p v)

module _ (S : ℕ → Type 0) where
  within_bind_m
      : {A B : Type 0} (m : Prog A) (f : A → Prog B) (M : Memory) → WithinM S m M → WithinM S (f (run_m m M).0) (run_m m M).1
      → WithinM S (m >>= f) M
  unfolding WithinM run_m ◌>>=◌
  within_bind_m (ret a) f M h g = g
  within_bind_m (read8 p k) f M h g = (h.0, within_bind_m (k (M p)) f M h.1 g)
  within_bind_m (read32 p k) f M h g = (h.0, within_bind_m (k (word M p)) f M h.1 g)
  within_bind_m (write8 p v k) f M h g = (h.0, within_bind_m k f (put1 M p v) h.1 g)
  within_bind_m (write32 p v k) f M h g = (h.0, within_bind_m k f (put4 M p v) h.1 g)
  within_bind_m (write_privileged p v k) f M h g = (h.0, within_bind_m k f (put4 M p v) h.1 g)

  within_wider_m
      : {A : Type 0} (T : ℕ → Type 0) → ((q : ℕ) → S q → T q) → (m : Prog A) (M : Memory) → WithinM S m M → WithinM T m M
  unfolding WithinM
  within_wider_m T i (ret a) M h = tt
  within_wider_m T i (read8 p k) M h = (i p h.0, within_wider_m T i (k (M p)) M h.1)
  within_wider_m T i (read32 p k) M h = ((λ j l. i (p + j) (h.0 j l)), within_wider_m T i (k (word M p)) M h.1)
  within_wider_m T i (write8 p v k) M h = (i p h.0, within_wider_m T i k (put1 M p v) h.1)
  within_wider_m T i (write32 p v k) M h = ((λ j l. i (p + j) (h.0 j l)), within_wider_m T i k (put4 M p v) h.1)
  within_wider_m T i (write_privileged p v k) M h = ((λ j l. i (p + j) (h.0 j l)), within_wider_m T i k (put4 M p v) h.1)

  -- off S nothing changes
  untouched_m : {A : Type 0} (m : Prog A) (M : Memory) → WithinM S m M → SameOutside S M (run_m m M).1
  unfolding WithinM run_m
  untouched_m (ret a) M h q o = refl
  untouched_m (read8 p k) M h q o = untouched_m (k (M p)) M h.1 q o
  untouched_m (read32 p k) M h q o = untouched_m (k (word M p)) M h.1 q o
  untouched_m (write8 p v k) M h q o =
      untouched_m k (put1 M p v) h.1 q o ∙ put1-off M p v q (λ e. o (rw e h.0))
  untouched_m (write32 p v k) M h q o =
      untouched_m k (put4 M p v) h.1 q o ∙ put4-off M p v q (λ i. o (in_range S p 4 q i h.0))
  untouched_m (write_privileged p v k) M h q o =
      untouched_m k (put4 M p v) h.1 q o ∙ put4-off M p v q (λ i. o (in_range S p 4 q i h.0))

  module _ {A : Type 0} where
    -- what follows from the result may be asked instead
    pub does_mono
        : {m : Prog A} {Q R : A → Memory → Type 0} {M : Memory} → Does S m Q M → ((a : A) (N : Memory) → Q a N → R a N) → Does S m R M
    does_mono {m} {Q} {R} {M} h i = record { lies = h.lies; gives = i (run_m m M).0 (run_m m M).1 h.gives }

    pub does_ret : {Q : A → Memory → Type 0} {a : A} {M : Memory} → Q a M → Does S (ret a) Q M
    unfolding WithinM run_m
    does_ret h = record { lies = tt; gives = h }

    -- the accesses, each with what follows
    pub does_get8
        : (p : ℕ) (f : ℕ → Prog A) {Q : A → Memory → Type 0} {M : Memory} → S p → Does S (f (M p)) Q M → Does S (get8 p >>= f) Q M
    unfolding WithinM run_m ◌>>=◌
    does_get8 p f s h = record { lies = (s, h.lies); gives = h.gives }

    pub does_get32
        : (p : ℕ) (f : ℕ → Prog A) {Q : A → Memory → Type 0} {M : Memory} → Four S p → Does S (f (word M p)) Q M → Does S (get32 p >>= f) Q M
    unfolding WithinM run_m ◌>>=◌
    does_get32 p f s h = record { lies = (s, h.lies); gives = h.gives }

    pub does_put8
        : (p v : ℕ) (f : Unit {0} → Prog A) {Q : A → Memory → Type 0} {M : Memory} → S p → Does S (f tt) Q (put1 M p v) → Does S (put8 p v >>= f) Q M
    unfolding WithinM run_m ◌>>=◌
    does_put8 p v f s h = record { lies = (s, h.lies); gives = h.gives }

    pub does_put32
        : (p v : ℕ) (f : Unit {0} → Prog A) {Q : A → Memory → Type 0} {M : Memory} → Four S p → Does S (f tt) Q (put4 M p v)
        → Does S (put32 p v >>= f) Q M
    unfolding WithinM run_m ◌>>=◌
    does_put32 p v f s h = record { lies = (s, h.lies); gives = h.gives }

  -- the last access of a program
  pub ends_put8 : (p v : ℕ) {Q : Unit {0} → Memory → Type 0} {M : Memory} → S p → Q tt (put1 M p v) → Does S (put8 p v) Q M
  unfolding WithinM run_m
  ends_put8 p v s h = record { lies = (s, tt); gives = h }

  pub ends_put32 : (p v : ℕ) {Q : Unit {0} → Memory → Type 0} {M : Memory} → Four S p → Q tt (put4 M p v) → Does S (put32 p v) Q M
  unfolding WithinM run_m
  ends_put32 p v s h = record { lies = (s, tt); gives = h }

  pub ends_privileged
      : (p v : ℕ) {Q : Unit {0} → Memory → Type 0} {M : Memory} → Four S p → Q tt (put4 M p v) → Does S (put32_privileged p v) Q M
  unfolding WithinM run_m
  ends_privileged p v s h = record { lies = (s, tt); gives = h }

  module _ {A B : Type 0} where
    -- a program whose result is known, then another
    pub does_then
        : (m : Prog A) (f : A → Prog B) {R : A → Memory → Type 0} {Q : B → Memory → Type 0} {M : Memory} → Does S m R M
        → ((a : A) (N : Memory) → R a N → Does S (f a) Q N) → Does S (m >>= f) Q M
    does_then m f {R} {Q} {M} h g =
        let k = g (run_m m M).0 (run_m m M).1 h.gives in
        record { lies = within_bind_m m f M h.lies k.lies; gives = rw (run_m_bind m f M) k.gives }

  -- a loop, under what its turns keep
  pub does_loop
      : {A : Type 0} (body : ℕ → A → Prog A) (I : ℕ → A → Memory → Type 0) (i n : ℕ) (a : A) (M : Memory)
      → ((j : ℕ) (b : A) (N : Memory) → i ≤ j → j < i + n → I j b N → Does S (body j b) (I (suc j)) N)
      → I i a M → Does S (loop body i n a) (I (i + n)) M
  unfolding loop
  does_loop body I i zero a M step h = let e : i + 0 ≡ i = omega arith in rw e (does_ret h)
  does_loop body I i (suc n) a M step h =
      let e : i + suc n ≡ suc i + n = omega arith in
      rw e
      (does_then (body i a) (λ b. loop body (suc i) n b) (step i a M (omega arith) (omega arith) h)
      (λ b N g. does_loop body I (suc i) n b N (λ j c L l k. step j c L (omega arith) (omega arith)) g))

  -- in a wider set; what lies outside S is kept
  pub does_wider
      : {A : Type 0} (T : ℕ → Type 0) → ((q : ℕ) → S q → T q) → {m : Prog A} {Q : A → Memory → Type 0} {M : Memory} → Does S m Q M
      → Does T m (λ a N. Q a N × SameOutside S M N) M
  does_wider T i {m} {Q} {M} h =
      record { lies = within_wider_m T i m M h.lies; gives = (h.gives, untouched_m m M h.lies) }

  -- a program that only reads, and gives v
  abbrev pub ReadsValue : {A : Type 0} → Prog A → A → Memory → Type 0
  ReadsValue m v M = Does S m (λ a N. (a ≡ v) × (N ≡ M)) M

  pub does_read
      : {A B : Type 0} (m : Prog A) (f : A → Prog B) (v : A) {Q : B → Memory → Type 0} {M : Memory} → ReadsValue m v M → Does S (f v) Q M
      → Does S (m >>= f) Q M
  does_read m f v {Q} {M} h k = does_then m f h (λ a N e. rw (e.0, e.1) k)

  pub reads_then
      : {A B : Type 0} (m : Prog A) (f : A → Prog B) (v : A) {u : B} {M : Memory} → ReadsValue m v M → ReadsValue (f v) u M → ReadsValue (m >>= f) u M
  reads_then m f v h k = does_read m f v h k

  pub reads_ret : {A : Type 0} (v : A) {M : Memory} → ReadsValue (ret v) v M
  reads_ret v = does_ret (refl, refl)

  pub reads_get8 : (p : ℕ) {v : ℕ} {M : Memory} → S p → M p ≡ v → ReadsValue (get8 p) v M
  unfolding WithinM run_m
  reads_get8 p s e = record { lies = (s, tt); gives = (e, refl) }

  pub reads_get32 : (p : ℕ) {v : ℕ} {M : Memory} → Four S p → word M p ≡ v → ReadsValue (get32 p) v M
  unfolding WithinM run_m
  reads_get32 p s e = record { lies = (s, tt); gives = (e, refl) }

  -- a read before what is done under a test
  pub if_reads
      : {A B : Type 0} (c : Bool) (m : Prog A) (f : A → Prog B) (v : A) (u : Prog B) {Q : B → Memory → Type 0} {M : Memory} → ReadsValue m v M
      → Does S (if c then f v else u) Q M → Does S (if c then (m >>= f) else u) Q M
  if_reads true m f v u h k = does_read m f v h k
  if_reads false m f v u h k = k

  -- what is done under a test, whatever is given after it
  pub if_then
      : {A : Type 0} (c : Bool) (m : Prog (Unit {0})) (x y : A) {Q : Memory → Type 0} {M : Memory} → Does S (if c then m else ret tt) (λ _ N. Q N) M
      → Does S (if c then (m >>= λ _. ret x) else ret y) (λ _ N. Q N) M
  unfolding run_m
  if_then true m x y h = does_then m (λ _. ret x) h (λ _ N q. does_ret q)
  if_then false m x y h = does_ret h.gives
