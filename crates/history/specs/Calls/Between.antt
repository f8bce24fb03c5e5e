-- From one call to the next: bytes outside the areas may change.
use Rattle.std.specs.Prelude.{ℕ, ◌<◌}
use Rattle.window.specs.Within.{Agree}
use Rattle.register.specs.Module.{Register}
use Rattle.history.specs.LoadedModule.{Area}
use Rattle.history.specs.Steps.Wp.{Memory}
use Rattle.history.specs.Steps.ModuleBytes.{shows_agree}
use Rattle.history.specs.Steps.Links.{Links}
use Rattle.history.specs.Steps.AllModulesShow.{Modules}
use Rattle.history.specs.Calls.LinkedState.{LinkedState, AtRest}

-- only the bytes of the areas matter
linked_state_agree
    : {C : Modules} {φ : ℕ → Links} {x y : ℕ → ℕ} {M N : Memory} → ((k : ℕ) → k < C.number → Agree (Area (C.image k)) M N) → LinkedState C φ x y M
    → LinkedState C φ x y N
linked_state_agree {C} e s =
    record {
      sound = s.sound;
      some = s.some;
      nonzero = s.nonzero;
      modules_show =
          record { stands = λ k l. record { shows = shows_agree (C.image k) (s.sound.laid k l) (e k l) (s.modules_show.stands k l).shows } };
      listed = s.listed;
      links = s.links;
    }

pub rest_agree
    : {C : Modules} {r : Register} {M N : Memory} → ((k : ℕ) → k < C.number → Agree (Area (C.image k)) M N) → AtRest C r M → AtRest C r N
rest_agree e h = record { links = h.links; next = h.next; previous = h.previous; linked_state = linked_state_agree e h.linked_state; register_matches = h.register_matches }
