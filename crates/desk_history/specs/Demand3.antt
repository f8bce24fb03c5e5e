-- Demand 3 through the desk: history does not show there either.
use Rattle.std.specs.Prelude.{if◌then◌else◌, ℕ, ◌≡◌, Bool}
use Rattle.std.proofs.Math.Path.{refl, subst}
use Rattle.std.proofs.Common.{sym, ◌∙◌, inl, inr}
use mathlib.Core.List.{List, [], ◌∷◌, ◌++◌, map}
use Rattle.std.proofs.Math.Bool.{true, false}
use Rattle.window.specs.Memory.{byte_at}
use Rattle.window.specs.Within.{Agree}
use Rattle.linker_spec.specs.Outcome.{Buffers}
use Rattle.history.specs.Below.{Each}
use Rattle.history.specs.LoadedModule.{Image, LoadedModule, image_of, Area}
use Rattle.history.specs.WellLaid.{WellLaid}
use Rattle.history.specs.Sessions.{CallRecord, after, unfit, brought, loaded_modules, standing, Areas, Lends, Next, Trace}
use Rattle.history.specs.Demand3.{Demand3, Premises, SameStanding, NoByteDiffers, AllHold, Linked, bytes_left, bytes_after}
use Rattle.history.specs.Sessions.Lists.{each_mono, each_left, each_map, map_each, among_each, standing-among}
use Rattle.history.specs.Sessions.Conclude.{same_image}
use Rattle.history.specs.Theorem.Demand3.{demand3_follows}
use Rattle.desk_history.specs.Sessions.{TurnRecord, left, fit, calls_of, calls, own_turns, LendsTurn, NextTurn, DeskSession, bytes_after_turns}
use Rattle.desk_history.specs.Turns.{unfit_makes_none, between-same}
use Rattle.desk_history.specs.Calls.{calls-fit, own-all, desk_made}
use Rattle.desk_history.specs.Trace.{lends_calls, desk_trace}
use Rattle.desk_history.specs.Holding.{Each-both, all_hold_on}

-- "no byte of the CRS's or a standing module's areas differs" after the last turn, its reply included
unfoldable pub NoByteDiffersAfterTurns : List TurnRecord → List TurnRecord → Type 0
NoByteDiffersAfterTurns ts us = Each (λ a. Agree (Area (image_of a)) (bytes_after_turns ts) (bytes_after_turns us)) (standing (calls ts))

-- every import holds its address after each turn, its reply included
unfoldable pub LinkedTurns : List TurnRecord → Type 0
LinkedTurns [] = Unit {0}
LinkedTurns (t ∷ ts) = AllHold (map image_of (standing (calls (t ∷ ts)))) (bytes_after_turns (t ∷ ts)) × LinkedTurns ts

-- of any two sessions through the desk whose calls meet the premises of demand 3: after each call and after each turn every import holds its
-- address, and where the sessions end alike no byte differs, neither after the last call nor after the last turn
unfoldable pub DeskDemand3 : Type 0
DeskDemand3 =
    (at bt : ℕ) (ts us : List TurnRecord) → DeskSession at ts → DeskSession bt us → Premises (calls ts) → Premises (calls us)
    → (Linked (calls ts) × LinkedTurns ts)
    × (Linked (calls us) × LinkedTurns us)
    × (SameStanding (standing (calls ts)) (standing (calls us)) → NoByteDiffers (calls ts) (calls us) × NoByteDiffersAfterTurns ts us)

module _ (at : ℕ) where
  -- the bytes that calls left are lent on
  bytes-lent
      : (cs : List CallRecord) → Trace at cs → Each (λ r. unfit r ≡ false) cs → (b : Buffers) → Lends at cs b
      → Agree (Areas (loaded_modules cs)) (bytes_left cs) (byte_at at b.window)
  unfolding Trace Next Each Lends loaded_modules Areas bytes_left
  bytes-lent [] h f b l q a = absurd a
  bytes-lent (r ∷ cs) h f b l q a =
      let e = (h.1 f.0).0 in
      subst (λ x. byte_at x (after r).window q ≡ byte_at at b.window q) (sym e) (l.areas_kept q a)

  -- a turn after the last one may be lent what that left
  left_lends : (t : TurnRecord) (ts : List TurnRecord) → fit t ≡ true → LendsTurn at (own_turns (t ∷ ts)) (left t)
  unfolding own_turns LendsTurn
  left_lends t ts f = rw f (between-same at (calls (t ∷ own_turns ts)) (left t))

  fit-bytes
      : (t : TurnRecord) (ts : List TurnRecord) → DeskSession at (t ∷ ts) → fit t ≡ true
      → Agree (Areas (loaded_modules (calls (t ∷ ts)))) (bytes_after (calls (t ∷ ts))) (byte_at t.at (left t).window)
  unfolding DeskSession NextTurn
  fit-bytes t ts h f =
      subst (λ x. Agree (Areas (loaded_modules (calls (t ∷ ts)))) (bytes_after (calls (t ∷ ts))) (byte_at x (left t).window)) (sym (h.1 f).0)
      (rw (own-all (calls (t ∷ ts)) (calls-fit (t ∷ ts)))
      (bytes-lent (calls (t ∷ ts)) (desk_trace at (t ∷ ts) h) (calls-fit (t ∷ ts)) (left t) (lends_calls at (t ∷ ts) h (left t) (left_lends t ts f))))

  -- replies and others change nothing of what the calls left in the areas
  turns_agree : (ts : List TurnRecord) → DeskSession at ts → Agree (Areas (loaded_modules (calls ts))) (bytes_after (calls ts)) (bytes_after_turns ts)
  unfolding calls loaded_modules Areas bytes_after_turns DeskSession
  turns_agree [] h = λ q a. absurd a
  turns_agree (t ∷ ts) h = go (fit t) refl (turns_agree ts h.2)
    where
      go
          : (f : Bool) → fit t ≡ f → Agree (Areas (loaded_modules (calls ts))) (bytes_after (calls ts)) (bytes_after_turns ts)
          → Agree (Areas (loaded_modules (calls (t ∷ ts)))) (bytes_after (calls (t ∷ ts))) (λ q. if f then byte_at t.at (left t).window q else bytes_after_turns ts q)
      go true f g = fit-bytes t ts h f
      go false f g = rw (unfit_makes_none t f) g

-- the area of each of a list is one of the list's
areas_of : (S : List LoadedModule) → Each (λ a. (q : ℕ) → Area (image_of a) q → Areas S q) S
unfolding Each Areas
areas_of [] = tt
areas_of (a ∷ S) = (
  (λ q h. inl h),
  each_mono (λ b. (q : ℕ) → Area (image_of b) q → Areas S q) (λ b. (q : ℕ) → Area (image_of b) q → Areas (a ∷ S) q) S (λ b f q h. inr (f q h)) (areas_of S),
)

-- so of each that stands, among those that came
standing_areas : (cs : List CallRecord) → Each (λ a. (q : ℕ) → Area (image_of a) q → Areas (loaded_modules cs) q) (standing cs)
standing_areas cs =
    among_each (λ a. (q : ℕ) → Area (image_of a) q → Areas (loaded_modules cs) q) (standing cs) (loaded_modules cs) (standing-among cs)
    (areas_of (loaded_modules cs))

-- the same bytes in the module's areas
abbrev SameIn : (M N : ℕ → ℕ) → LoadedModule → Type 0
SameIn M N a = Agree (Area (image_of a)) M N

-- in what stands the bytes after the turns are those after the calls
standing-same : (at : ℕ) (ts : List TurnRecord) → DeskSession at ts → Each (SameIn (bytes_after (calls ts)) (bytes_after_turns ts)) (standing (calls ts))
standing-same at ts h = each_mono _ _ (standing (calls ts)) (λ a f q s. turns_agree at ts h q (f q s)) (standing_areas (calls ts))

-- the modules that came are well laid
abbrev Laid : List CallRecord → Type 0
Laid cs = Each (λ a. WellLaid (image_of a)) (loaded_modules cs)

-- so are those that came before, and their imports held
laid_before : (cs ds : List CallRecord) → Laid (cs ++ ds) → Laid ds
unfolding loaded_modules
laid_before [] ds h = h
laid_before (c ∷ cs) ds h = laid_before cs ds (each_left (λ a. WellLaid (image_of a)) (loaded_modules (cs ++ ds)) (brought c) h)

linked_before : (cs ds : List CallRecord) → Linked (cs ++ ds) → Linked ds
unfolding Linked
linked_before [] ds h = h
linked_before (c ∷ cs) ds h = linked_before cs ds h.1

-- every import holds its address after the last call
last-holds : (cs : List CallRecord) → Linked cs → AllHold (map image_of (standing cs)) (bytes_after cs)
unfolding Linked standing AllHold Each
last-holds [] h = tt
last-holds (c ∷ cs) h = h.0

-- and after the last turn
turn_holds
    : (at : ℕ) (ts : List TurnRecord) → DeskSession at ts → Laid (calls ts) → Linked (calls ts)
    → AllHold (map image_of (standing (calls ts))) (bytes_after_turns ts)
turn_holds at ts h laid l =
    let S = standing (calls ts) in
    all_hold_on (bytes_after (calls ts)) (bytes_after_turns ts) (map image_of S)
    (map_each image_of _ S
    (Each-both (λ a. WellLaid (image_of a)) _ _ S (λ a w s. (w, s)) (among_each _ S (loaded_modules (calls ts)) (standing-among (calls ts)) laid) (standing-same at ts h)))
    (last-holds (calls ts) l)

linked-turns : (at : ℕ) (ts : List TurnRecord) → DeskSession at ts → Laid (calls ts) → Linked (calls ts) → LinkedTurns ts
unfolding LinkedTurns DeskSession calls
linked-turns at [] h laid l = tt
linked-turns at (t ∷ ts) h laid l =
    (turn_holds at (t ∷ ts) h laid l, linked-turns at ts h.2 (laid_before (calls_of t) (calls ts) laid) (linked_before (calls_of t) (calls ts) l))

-- what holds of the images of one list holds of those of a list that came alike
each_alike : (P : Image → Type 0) (S T : List LoadedModule) → SameStanding S T → Each (λ a. P (image_of a)) T → Each (λ a. P (image_of a)) S
unfolding SameStanding Each
each_alike P [] [] h g = tt
each_alike P (a ∷ S) (b ∷ T) h g = (subst P (sym (same_image a b h.0 h.1)) g.0, each_alike P S T h.2 g.1)
each_alike P [] (b ∷ T) h g = absurd h
each_alike P (a ∷ S) [] h g = absurd h

after-turns
    : (at bt : ℕ) (ts us : List TurnRecord) → DeskSession at ts → DeskSession bt us → SameStanding (standing (calls ts)) (standing (calls us))
    → NoByteDiffers (calls ts) (calls us) → NoByteDiffersAfterTurns ts us
unfolding NoByteDiffers NoByteDiffersAfterTurns
after-turns at bt ts us h g same n =
    let S = standing (calls ts) in
    let others = each_alike (λ m. Agree (Area m) (bytes_after (calls us)) (bytes_after_turns us)) S (standing (calls us)) same (standing-same bt us g) in
    Each-both (SameIn (bytes_after (calls ts)) (bytes_after_turns ts)) (SameIn (bytes_after (calls ts)) (bytes_after_turns us)) _ S
    (λ a e f q s. sym (e q s) ∙ f q s) (standing-same at ts h)
    (Each-both (SameIn (bytes_after (calls ts)) (bytes_after (calls us))) (SameIn (bytes_after (calls us)) (bytes_after_turns us)) _ S
    (λ a e f q s. e q s ∙ f q s) n others)

-- of one session, after its calls and after its turns
linked
    : (at : ℕ) (ts : List TurnRecord) → DeskSession at ts → Premises (calls ts) → Linked (calls ts) → Linked (calls ts) × LinkedTurns ts
linked at ts h p l = (l, linked-turns at ts h (each_map image_of WellLaid (loaded_modules (calls ts)) p.well_laid) l)

pub desk_demand3 : DeskDemand3
unfolding DeskDemand3 Demand3
desk_demand3 at bt ts us h g p r =
    let d = demand3_follows at bt (calls ts) (calls us) (desk_trace at ts h) (desk_trace bt us g) (desk_made ts) (desk_made us) p r in
    (linked at ts h p d.0.1, linked bt us g r d.1.1, λ same. (d.2 same, after-turns at bt ts us h g same (d.2 same)))
