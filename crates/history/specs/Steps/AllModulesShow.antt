-- All modules that stand, by number: 0 is the CRS, the others follow in load order. What is done to one leaves the others as they are.
use Rattle.std.specs.Prelude.{if◌then◌else◌, ℕ, ◌+◌, ◌^◌, ◌≤◌, ◌<◌, ◌≡◌, refl, ◌≢◌, eqb}
use Rattle.std.proofs.Common.{sym, ◌∙◌, lit<, lit≤, eq-eqb, ne_eqb}
use native.Mathlib.Omega.{arith}
use Rattle.std.proofs.Math.Decide.{ℕ_discrete}
use Rattle.window.specs.Memory.{◌⊕◌}
use Rattle.window.specs.Access.{Prog}
use Rattle.window.specs.Bytes.{byte_of, join-bytes, join-at}
use Rattle.window.specs.Within.{Low}
use Rattle.window.specs.Mirror.{word}
use Rattle.layout.specs.Segments.{field, set_field}
use Rattle.history.specs.LoadedModule.{Image, base_of, size_of, Area}
use Rattle.history.specs.WellLaid.{WellLaid}
use Rattle.history.specs.Steps.Wp.{Memory, Does, SameOutside, ReadsValue, does_mono, does_wider, ends_put32, reads_get32}
use Rattle.history.specs.Steps.View.{View}
use Rattle.history.specs.Steps.ModuleBytes.{put_next, put-previous, shows_agree}
use Rattle.history.specs.Steps.Reading.{plain-sum, four_at}
use Rattle.history.specs.Steps.Links.{Links, Stands}

-- the modules, each well laid and apart from the others, with the bytes at rest and the links of each
pub record Modules : Type 0 where
  pub number : ℕ
  pub image : ℕ → Image
  pub rest : ℕ → Memory

pub record Sound (C : Modules) : Type 0 where
  pub laid : (k : ℕ) → k < C.number → WellLaid (C.image k)
  pub low : (k : ℕ) → k < C.number → Low (Area (C.image k))
  pub view : (k : ℕ) → k < C.number → View (C.image k) (C.rest k)
  pub apart : (j k q : ℕ) → j < C.number → k < C.number → j ≢ k → Area (C.image j) q → Area (C.image k) q → ⊥

-- another thing at k
unfoldable pub put : {A : Type 0} → (ℕ → A) → ℕ → A → ℕ → A
put f k x i = if eqb i k then x else f i

pub put_same : {A : Type 0} (f : ℕ → A) (k : ℕ) (x : A) → put f k x k ≡ x
unfolding put
put_same f k x = rw (eq-eqb k k refl) refl

pub put_other : {A : Type 0} (f : ℕ → A) (k : ℕ) (x : A) (i : ℕ) → i ≢ k → put f k x i ≡ f i
unfolding put
put_other f k x i n = rw (ne_eqb i k n) refl

-- links of every module, and the two list words of every module
pub record AllModulesShow (C : Modules) (φ : ℕ → Links) (next previous : ℕ → ℕ) (M : Memory) : Type 0 where
  pub stands : (k : ℕ) → k < C.number → Stands (C.image k) (C.rest k) (φ k) (next k) (previous k) M

module _ (C : Modules) (sound : Sound C) where
  -- the areas of all
  abbrev pub All : ℕ → Type 0
  All q = (k : ℕ) × (k < C.number) × Area (C.image k) q

  abbrev pub base : ℕ → ℕ
  base k = base_of (C.image k).load_call

  -- what is done to module k
  pub focus
      : {A : Type 0} {φ : ℕ → Links} {n v : ℕ → ℕ} {M : Memory} (k : ℕ) → k < C.number → (m : Prog A) {Q : A → Memory → Type 0}
      (f : A → Memory → Links) (a b : ℕ) → AllModulesShow C φ n v M
      → Does (Area (C.image k)) m (λ x N. Q x N × Stands (C.image k) (C.rest k) (f x N) a b N) M
      → Does All m (λ x N. Q x N × AllModulesShow C (put φ k (f x N)) (put n k a) (put v k b) N) M
  focus {A} {φ} {n} {v} {M} k l m {Q} f a b w h =
      does_mono All (does_wider (Area (C.image k)) All (λ q s. (k, l, s)) h)
      (λ x N g. (g.0.0, record { stands = λ j i. each x N g.0.1 g.1 j i (ℕ_discrete j k) }))
    where
      each
          : (x : A) (N : Memory) → Stands (C.image k) (C.rest k) (f x N) a b N → SameOutside (Area (C.image k)) M N → (j : ℕ) → j < C.number
          → Dec (j ≡ k)
          → Stands (C.image j) (C.rest j) (put φ k (f x N) j) (put n k a j) (put v k b j) N
      each x N s t j i (yes e) = rw (e, put_same φ k (f x N), put_same n k a, put_same v k b) s
      each x N s t j i (no d) =
          rw (put_other φ k (f x N) j d, put_other n k a j d, put_other v k b j d)
          (record {
            shows = shows_agree (C.image j) (sound.laid j i) (λ q r. sym (t q (λ u. sound.apart j k q i l d r u))) (w.stands j i).shows;
          })

  -- written again, links are as they were
  pub again : {A : Type 0} (f : ℕ → A) (k j : ℕ) → put f k (f k) j ≡ f j
  again f k j = elim (ℕ_discrete j k) [ yes e ↦ rw e (put_same f k (f k)) | no d ↦ put_other f k (f k) j d ]

  pub modules_show_same
      : {φ ψ : ℕ → Links} {n a v b : ℕ → ℕ} {M : Memory} → ((j : ℕ) → φ j ≡ ψ j) → ((j : ℕ) → n j ≡ a j) → ((j : ℕ) → v j ≡ b j) → AllModulesShow C φ n v M
      → AllModulesShow C ψ a b M
  modules_show_same e f g w = record { stands = λ k l. rw (← e k, ← f k, ← g k) (w.stands k l) }

  header-inside : (k : ℕ) → k < C.number → 0x138 ≤ size_of (C.image k).load_call
  header-inside k l = (sound.laid k l).alone.header-inside

  field-sum : (k x : ℕ) → k < C.number → x < 0x138 → base k ⊕ x ≡ base k + x
  field-sum k x l h =
      let b = plain-sum (C.image k) (sound.laid k l) (sound.low k l) x (omega (arith, header-inside k l)) in omega (arith, b)

  -- the list words, written
  pub sets_next
      : {φ : ℕ → Links} {n v : ℕ → ℕ} {M : Memory} (k a : ℕ) → k < C.number → AllModulesShow C φ n v M
      → Does All (set_field (base k) 0x88 a) (λ _ N. AllModulesShow C φ (put n k a) v N) M
  unfolding set_field
  sets_next {φ} {n} {v} {M} k a l w =
      does_mono All
      (focus k l (set_field (base k) 0x88 a) {Q = λ x N. Unit {0}} (λ _ _. φ k) a (v k) w
      (rw (field-sum k 0x88 l (lit< tt))
      (ends_put32 (Area (C.image k)) (base k + 0x88) a
      (four_at (C.image k) (sound.laid k l) (sound.low k l) 0x88 (omega (arith, header-inside k l)))
      (tt, record { shows = put_next (C.image k) (sound.laid k l) a (w.stands k l).shows }))))
      (λ _ N g. modules_show_same (again φ k) (λ j. refl) (again v k) g.1)

  pub sets_previous
      : {φ : ℕ → Links} {n v : ℕ → ℕ} {M : Memory} (k a : ℕ) → k < C.number → AllModulesShow C φ n v M
      → Does All (set_field (base k) 0x8c a) (λ _ N. AllModulesShow C φ n (put v k a) N) M
  unfolding set_field
  sets_previous {φ} {n} {v} {M} k a l w =
      does_mono All
      (focus k l (set_field (base k) 0x8c a) {Q = λ x N. Unit {0}} (λ _ _. φ k) (n k) a w
      (rw (field-sum k 0x8c l (lit< tt))
      (ends_put32 (Area (C.image k)) (base k + 0x8c) a
      (four_at (C.image k) (sound.laid k l) (sound.low k l) 0x8c (omega (arith, header-inside k l)))
      (tt, record { shows = put-previous (C.image k) (sound.laid k l) a (w.stands k l).shows }))))
      (λ _ N g. modules_show_same (again φ k) (again n k) (λ j. refl) g.1)

  -- and read
  in_all : (k x : ℕ) → k < C.number → x + 4 ≤ 0x138 → (i : ℕ) → i < 4 → All (base k + x + i)
  in_all k x l h i g =
      (k, l, four_at (C.image k) (sound.laid k l) (sound.low k l) x (omega (arith, header-inside k l)) i g)

  pub word_of : (M : Memory) (p a : ℕ) → a < 2 ^ 32 → ((i : ℕ) → i < 4 → M (p + i) ≡ byte_of i a) → word M p ≡ a
  unfolding word
  word_of M p a h f = join-at M (λ i. byte_of i a) p f ∙ join-bytes a ∙ omega arith

  pub reads_next
      : {φ : ℕ → Links} {n v : ℕ → ℕ} {M : Memory} (k : ℕ) → k < C.number → n k < 2 ^ 32 → AllModulesShow C φ n v M
      → ReadsValue All (field (base k) 0x88) (n k) M
  unfolding field
  reads_next {φ} {n} {v} {M} k l h w =
      rw (field-sum k 0x88 l (lit< tt))
      (reads_get32 All (base k + 0x88) (in_all k 0x88 l (lit≤ tt)) (word_of M (base k + 0x88) (n k) h (λ i g. (w.stands k l).shows.nexts i g)))

  pub reads_previous
      : {φ : ℕ → Links} {n v : ℕ → ℕ} {M : Memory} (k : ℕ) → k < C.number → v k < 2 ^ 32 → AllModulesShow C φ n v M
      → ReadsValue All (field (base k) 0x8c) (v k) M
  unfolding field
  reads_previous {φ} {n} {v} {M} k l h w =
      rw (field-sum k 0x8c l (lit< tt))
      (reads_get32 All (base k + 0x8c) (in_all k 0x8c l (lit≤ tt)) (word_of M (base k + 0x8c) (v k) h (λ i g. (w.stands k l).shows.previouses i g)))
