-- The words of a place and of a desk after a change.
use Rattle.std.proofs.Common.{◌≡◌, ℕ, zero, suc, ◌+◌, ◌-◌, ◌/◌, ◌%◌, ◌<◌, ◌≤◌, List, [], ◌∷◌, ◌++◌, length, get_or, sym, refl, ap, ◌∙◌, add-one, arith, length-append, length-drop, get_or-drop}
use lib.Seq.{get_or-append_seam}
use Rattle.desk_spec.specs.declared.place.Change.{Change}
use Rattle.desk_spec.specs.declared.place.Change.TheVariants.{Sent, Served}
use Rattle.desk_spec.specs.Desk.{Place, Desk, place_at, with_place, changed_place, place_after, next_after, changed}
use Rattle.desk_spec.specs.Bytes.{desk_of, place_word, desk_word}
use Rattle.desk_spec.specs.Places.{at-changed, at_other}
use Rattle.desk.proofs.places.Reading.{most_taken}

-- a queue with one more

get_d_one-more : (l : List ℕ) (v j : ℕ) → (j ≡ length l → ⊥) → get_or (l ++ (v ∷ [])) j 0 ≡ get_or l j 0
get_d_one-more [] v zero n = absurd (n refl)
get_d_one-more [] v (suc j) n = refl
get_d_one-more (a ∷ l) v zero n = refl
get_d_one-more (a ∷ l) v (suc j) n = get_d_one-more l v j (λ e. n (ap suc e))

-- the words of a place to which a buffer was sent

module _ (i caller buffer : ℕ) (p : Place) where
  pub sent_caller : (f : ℕ) → f ≡ 0 → caller ≡ place_word (place_after (Sent i caller buffer) p) f
  unfolding place_word place_after
  sent_caller f z = rw z

  module _ {waiting : ℕ} (w : waiting ≡ place_word p 1) where
    pub sent_count : (f : ℕ) → f ≡ 1 → waiting + 1 ≡ place_word (place_after (Sent i caller buffer) p) f
    unfolding place_word place_after
    sent_count f z = rw (z, w) (sym (length-append p.waiting (buffer ∷ [])))

    pub sent_last : (f : ℕ) → (f ≡ 0 → ⊥) → (f ≡ 1 → ⊥) → f - 2 ≡ waiting → buffer ≡ place_word (place_after (Sent i caller buffer) p) f
    unfolding place_word place_after
    sent_last zero n₀ n₁ e = absurd (n₀ refl)
    sent_last (suc zero) n₀ n₁ e = absurd (n₁ refl)
    sent_last (suc (suc j)) n₀ n₁ e =
        let last : j ≡ length p.waiting = omega arith in
        rw last (sym (get_or-append_seam p.waiting buffer [] 0))

    pub sent_other
        : (f : ℕ) → (f ≡ 0 → ⊥) → (f ≡ 1 → ⊥) → (f - 2 ≡ waiting → ⊥) → place_word p f ≡ place_word (place_after (Sent i caller buffer) p) f
    unfolding place_word place_after
    sent_other zero n₀ n₁ n = absurd (n₀ refl)
    sent_other (suc zero) n₀ n₁ n = absurd (n₁ refl)
    sent_other (suc (suc j)) n₀ n₁ n = sym (get_d_one-more p.waiting buffer j (λ e. n (omega arith)))

-- the words of a place that was served

pub served_caller : (i : ℕ) (p : Place) (f : ℕ) → f ≡ 0 → place_word p 0 ≡ place_word (place_after (Served i) p) f
unfolding place_word place_after
served_caller i p f z = rw z

pub served_buffer : (i : ℕ) (p : Place) (f : ℕ) → 1 < f → place_word p (f + 1) ≡ place_word (place_after (Served i) p) f
unfolding place_word place_after
served_buffer i p zero h = absurd (omega arith)
served_buffer i p (suc zero) h = absurd (omega arith)
served_buffer i p (suc (suc j)) h =
    let e : suc (suc j) + 1 ≡ suc (suc (1 + j)) = omega arith in
    rw e (sym (get_or-drop 1 p.waiting j 0))

pub served-count : (i : ℕ) (p : Place) (f : ℕ) → f ≡ 1 → place_word p 1 - 1 ≡ place_word (place_after (Served i) p) f
unfolding place_word place_after
served-count i p f z = rw z (sym (length-drop 1 p.waiting))

-- a desk after a change

module _ (d : Desk) {change variant : Change} (e : change ≡ variant) where
  pub changed-count
      : {n : ℕ} → ((p : Place) → n ≡ length (with_place d.places (changed_place variant) p)) → n ≡ length (changed change d).places
  unfolding changed
  changed-count h = rw e (h (place_after variant (place_at d.places (changed_place variant))))

  module _ (behind : changed_place change ≤ length d.places) (j f : ℕ) {v : ℕ} where
    pub changed-there
        : changed_place variant ≡ j → v ≡ place_word (place_after variant (place_at d.places (changed_place variant))) f
        → v ≡ place_word (place_at (changed change d).places j) f
    unfolding changed
    changed-there there word =
        let p = place_after variant (place_at d.places (changed_place variant)) in
        rw (e, ← there) (word ∙ sym (ap (λ q. place_word q f) (at-changed p d.places (changed_place variant) (rw e at behind))))

    pub changed-elsewhere
        : (changed_place variant ≡ j → ⊥) → v ≡ place_word (place_at d.places j) f → v ≡ place_word (place_at (changed change d).places j) f
    unfolding changed
    changed-elsewhere elsewhere word =
        let p = place_after variant (place_at d.places (changed_place variant)) in
        rw e (word ∙ sym (ap (λ q. place_word q f) (at_other p d.places (changed_place variant) j (rw e at behind) (λ same. elsewhere (sym same)))))

pub sent_next : (d : Desk) {change : Change} {i caller buffer : ℕ} → change ≡ Sent i caller buffer → d.next ≡ (changed change d).next
unfolding changed next_after
sent_next d e = rw e

pub served-next : (d : Desk) {change : Change} {i : ℕ} → change ≡ Served i → i + 1 ≡ (changed change d).next
unfolding changed next_after
served-next d {i = i} e = rw e (add-one i)

pub served_most : (bytes : List ℕ) {change : Change} {i : ℕ} → change ≡ Served i → changed_place change ≤ length (desk_of bytes).places → i ≤ 8
served_most bytes {i = i} e h = let behind : i ≤ length (desk_of bytes).places = rw e at h in omega (arith, most_taken bytes)

-- the words of a desk

pub count-first : (d : Desk) (k : ℕ) → k ≡ 0 → length d.places ≡ desk_word d k
unfolding desk_word
count-first d k z = rw z

pub next_second : (d : Desk) (k : ℕ) → k ≡ 1 → d.next ≡ desk_word d k
unfolding desk_word
next_second d k z = rw z

pub then-zeros : (d : Desk) (k : ℕ) → (k ≡ 0 → ⊥) → (k ≡ 1 → ⊥) → k < 4 → 0 ≡ desk_word d k
unfolding desk_word
then-zeros d zero n₀ n₁ h = absurd (n₀ refl)
then-zeros d (suc zero) n₀ n₁ h = absurd (n₁ refl)
then-zeros d (suc (suc zero)) n₀ n₁ h = refl
then-zeros d (suc (suc (suc zero))) n₀ n₁ h = refl
then-zeros d (suc (suc (suc (suc k)))) n₀ n₁ h = absurd (omega arith)

pub then_places : (d : Desk) (k : ℕ) → 4 ≤ k → place_word (place_at d.places ((k - 4) / 18)) ((k - 4) % 18) ≡ desk_word d k
unfolding desk_word
then_places d zero h = absurd (omega arith)
then_places d (suc zero) h = absurd (omega arith)
then_places d (suc (suc zero)) h = absurd (omega arith)
then_places d (suc (suc (suc zero))) h = absurd (omega arith)
then_places d (suc (suc (suc (suc k)))) h = let e : suc (suc (suc (suc k))) - 4 ≡ k = omega arith in rw e
