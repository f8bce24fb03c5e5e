-- The two sessions are traces of calls that the exported functions make, and meet every premise of `Demand3`.
use Rattle.std.specs.Prelude.{ℕ, ◌≡◌, refl, ◌≢◌, List, [], ◌∷◌, Bool, true, false, length}
use Rattle.std.proofs.Common.{ap, inl, inr, arith}
use Rattle.window.specs.Memory.{byte_at}
use Rattle.window.specs.Within.{In}
use Rattle.linker_spec.specs.Valid.{AreBytes}
use Rattle.history.specs.LoadedModule.{LoadedModule, Image, base_of, is_crs, Area}
use Rattle.history.specs.Sessions.{WordArguments, Between, Lends, Trace, comes, loaded_modules, Areas, Fresh}
use Rattle.history.specs.Outcomes.{Made, Promised}
use Rattle.history.specs.Below.{Each}
use Rattle.history.specs.Demand3.{InOrder, AutoLinked, ImportsKept, Premises}
use Rattle.history_witness.specs.Image.{cro}
use Rattle.history_witness.specs.Open.{opened}
use Rattle.history_witness.specs.Laid.{laid-tests, laid}
use Rattle.history_witness.specs.Tests.{meets}
use Rattle.history_witness.specs.Together.{each_all, pairs-all, in_true, in_test, once_test, once_true, apart_test_lem, apart_true, name_test, name_true, exports_test, exports_true}
use Rattle.history_witness.specs.Tested.{tested}
use Rattle.history_witness.specs.Exact.{came, brings, ours, came_are, small_all, are_bytes, same-between, next-own, next-unfit, promised, Quiet, not_both, Ordered, Suits, premises_of, windows_of}
use Rattle.history_witness.specs.PageBefore.{at, bt, page_before, lent_page_before}
use Rattle.history_witness.specs.Computed.{page₁, b₀, b₁, b₂, b₃, d₀, d₁, d₂, d₃, short, wrong, shown, o₁, o₂, o₃, o₄}
use Rattle.history_witness.specs.Sessions.{t₁, t₂, t₃, t₄, t₅, t₆, t₇, t₈, t₉, A, u₁, u₂, u₃, u₄, B, exact_a, exact_b, c, m, n, c', m', n', C, M, N, c_is, images-a, images-b, c_area, same_pages, same-part}

-- bytes are bytes
bytes-a : AreBytes b₀ × AreBytes (b₁ cro) × AreBytes b₂ × AreBytes b₃
unfolding opened shown small_all
bytes-a = (are_bytes b₀ refl refl, are_bytes (b₁ cro) refl refl, are_bytes b₂ refl refl, are_bytes b₃ refl refl)

bytes-b : AreBytes (lent_page_before d₀) × AreBytes (lent_page_before d₁) × AreBytes (lent_page_before d₂) × AreBytes (lent_page_before d₃)
unfolding opened shown page_before small_all
bytes-b =
    (are_bytes (lent_page_before d₀) refl refl, are_bytes (lent_page_before d₁) refl refl, are_bytes (lent_page_before d₂) refl refl, are_bytes (lent_page_before d₃) refl refl)

bytes-unfit : AreBytes short × AreBytes wrong
unfolding opened small_all
bytes-unfit = (are_bytes short refl refl, are_bytes wrong refl refl)

fresh-a : Fresh b₀
unfolding opened shown
fresh-a = (refl, refl)

fresh-b : Fresh (lent_page_before d₀)
unfolding opened shown
fresh-b = (refl, refl)

came-first : loaded_modules (t₄ ∷ t₁ ∷ []) ≡ c ∷ []
unfolding Each came brings comes
came-first = came_are (t₄ ∷ t₁ ∷ []) (o₄, (o₁, tt))

first_kept : (q : ℕ) → Areas (c ∷ []) q → byte_at at (page₁ 0) q ≡ byte_at at (page₁ cro) q
unfolding Areas
first_kept q (inl h) = same-part (page₁ 0) (page₁ cro) 0 0x178 q same_pages.1 (omega arith) (c_area q (rw c_is at h))
first_kept q (inr h) = absurd h

same_lengths : length (page₁ 0) ≡ length (page₁ cro)
unfolding opened shown
same_lengths = refl

-- item 9: others write the magic word of `m` between two calls, outside all that is loaded so far, the CRS
pub others_write : Between at (t₄ ∷ t₁ ∷ []) (b₁ 0) (b₁ cro)
others_write =
    record { register = (refl, refl, refl); length_kept = same_lengths; areas_kept = λ q h. first_kept q (rw came-first at h) }

-- arguments are 32-bit numbers
words_are : WordArguments t₁.call × WordArguments t₂.call × WordArguments t₃.call × WordArguments t₆.call × WordArguments t₇.call × WordArguments u₃.call
unfolding WordArguments
words_are = omega arith

pub trace_a : Trace at A
unfolding Trace Each Lends ours
trace_a = (
  (words_are.1, bytes-a.2),
  next-own at t₉ _ exact_a.1 refl (same-between at _ b₂),
  (
    (words_are.1, bytes-a.3),
    next-own at t₈ _ exact_a.1.1 refl (same-between at _ b₃),
    (
      (words_are.4, bytes-a.3),
      next-own at t₇ _ exact_a.1.1.1 refl (same-between at _ b₃),
      (
        (words_are.3, bytes-a.2),
        next-own at t₆ _ exact_a.1.1.1.1 refl (same-between at _ b₂),
        (
          (words_are.0, bytes-a.1),
          next-own at t₅ _ exact_a.1.1.1.1.1 refl others_write,
          (
            (words_are.2, bytes-a.0),
            next-own at t₄ _ exact_a.1.1.1.1.1.1 refl (same-between at _ b₀),
            (
              (words_are.2, bytes-unfit.1),
              next-unfit at t₃ _ o₃ refl,
              (
                (words_are.1, bytes-unfit.0),
                next-unfit at t₂ _ o₂ refl,
                ((words_are.0, bytes-a.0), next-own at t₁ [] tt refl fresh-a, tt),
              ),
            ),
          ),
        ),
      ),
    ),
  ),
)

pub trace_b : Trace bt B
unfolding Trace Each Lends ours
trace_b = (
  (words_are.1, bytes-b.3),
  next-own bt u₄ _ exact_b.1 refl (same-between bt _ (lent_page_before d₃)),
  (
    (words_are.5, bytes-b.2),
    next-own bt u₃ _ exact_b.1.1 refl (same-between bt _ (lent_page_before d₂)),
    (
      (words_are.3, bytes-b.1),
      next-own bt u₂ _ exact_b.1.1.1 refl (same-between bt _ (lent_page_before d₁)),
      ((words_are.2, bytes-b.0), next-own bt u₁ [] tt refl fresh-b, tt),
    ),
  ),
)

pub made_a : Made Promised A
made_a = promised A exact_a

pub made_b : Made Promised B
made_b = promised B exact_b

-- what antt computes of the three images
abbrev pub three : List Image
three = C ∷ M ∷ N ∷ []

abbrev other : List Image
other = C ∷ N ∷ M ∷ []

pub suits_three : Suits three
unfolding opened shown tested Each AutoLinked ImportsKept
suits_three =
    record {
      auto_linked = (tt, (refl, (refl, tt)));
      imports_kept = (tt, (omega arith, (omega arith, tt)));
      base-not_0 = (omega arith, (omega arith, (omega arith, tt)));
      areas_apart = pairs-all apart_test_lem apart_true three refl;
      other-names = pairs-all name_test name_true three refl;
      other_exports = pairs-all exports_test exports_true three refl;
      exports_once = each_all once_test once_true three refl;
      well_laid = each_all (λ a. meets (laid-tests a)) laid three refl;
    }

suits_other : Suits other
unfolding opened shown tested Each AutoLinked ImportsKept
suits_other =
    record {
      auto_linked = (tt, (refl, (refl, tt)));
      imports_kept = (tt, (omega arith, (omega arith, tt)));
      base-not_0 = (omega arith, (omega arith, (omega arith, tt)));
      areas_apart = pairs-all apart_test_lem apart_true other refl;
      other-names = pairs-all name_test name_true other refl;
      other_exports = pairs-all exports_test exports_true other refl;
      exports_once = each_all once_test once_true other refl;
      well_laid = each_all (λ a. meets (laid-tests a)) laid other refl;
    }

pub windows_a : Each (λ a. (q : ℕ) → Area a q → In at 4096 q) three
unfolding opened shown tested
windows_a = each_all (λ a. in_test a at 4096) (λ a. in_true a at 4096) three refl

windows_b : Each (λ a. (q : ℕ) → Area a q → In bt 8192 q) other
unfolding opened shown tested
windows_b = each_all (λ a. in_test a bt 8192) (λ a. in_true a bt 8192) other refl

pub long
    : (length b₀.window ≡ 4096) × (length (b₁ cro).window ≡ 4096) × (length b₂.window ≡ 4096) × (length b₃.window ≡ 4096)
    × (length (lent_page_before d₃).window ≡ 8192)
unfolding opened shown page_before
long = (refl, refl, refl, refl, refl)

some_come : {a : LoadedModule} {S : List LoadedModule} → a ∷ S ≢ []
some_come {a} {S} e = let z : length (a ∷ S) ≡ 0 = ap length e in absurd (omega (arith, z))

-- the CRS has another base than `n`
abbrev NotCrs : LoadedModule → Type 0
NotCrs a = is_crs a.load_call ≡ true → base_of a.load_call ≢ 0x100420

others-base : Each NotCrs (c ∷ m ∷ n ∷ []) × Each NotCrs (c' ∷ n' ∷ m' ∷ [])
unfolding Each
others-base =
    let it : ◌≡◌ {A = ℕ} 0x100000 0x100420 → ⊥ = λ z. omega arith in (
      ((λ h. it), ((λ h. not_both false h refl), ((λ h. not_both false h refl), tt))),
      ((λ h. it), ((λ h. not_both false h refl), ((λ h. not_both false h refl), tt))),
    )

pub crs-first-a : Ordered A
unfolding Ordered InOrder came brings comes
crs-first-a = (
  (λ e. others-base.0),
  (
    (λ e. others-base.0),
    (
      (λ e. not_both false e refl),
      (
        (λ e. some_come),
        (
          (λ e. some_come),
          (
            (λ e. refl),
            ((λ e. not_both false e refl), ((λ e. not_both false e refl), ((λ e. not_both false e refl), tt))),
          ),
        ),
      ),
    ),
  ),
)

crs-first-b : Ordered B
unfolding Ordered InOrder came brings comes
crs-first-b = ((λ e. others-base.1), ((λ e. some_come), ((λ e. some_come), ((λ e. refl), tt))))

not-refused : {X : Type 0} → ◌≡◌ {A = Bool} true false → X
not-refused e = not_both true refl e

pub quiet-a : Each Quiet A
unfolding Each
quiet-a = (
  not-refused,
  (not-refused, ((λ e. refl), (not-refused, (not-refused, (not-refused, ((λ e. refl), ((λ e. refl), ((λ e. refl), tt)))))))),
)

pub premises_a : Premises A
unfolding ours
premises_a = premises_of A three exact_a images-a suits_three quiet-a crs-first-a (windows_of t₉ _ 4096 three long.2 windows_a)

pub premises_b : Premises B
unfolding Each ours
premises_b =
    premises_of B other exact_b images-b suits_other (not-refused, (not-refused, (not-refused, (not-refused, tt)))) crs-first-b
    (windows_of u₄ _ 8192 other long.4 windows_b)
