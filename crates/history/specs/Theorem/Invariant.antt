-- What a session keeps: the arrivals that stand are at rest, each with the bytes at rest that its call and its bytes alone determine.
use Rattle.std.specs.Prelude.{ℕ, pred, ◌<◌, ◌≡◌, List, [], ◌∷◌, ◌++◌, length, get_or}
use Rattle.std.proofs.Common.{sym, ap, ◌∙◌, arith}
use Rattle.std.proofs.Math.Path.{fun_ext}
use Rattle.std.proofs.Math.Decide.{dec_lt, ℕ_discrete}
use Rattle.std.proofs.Math.ListN.{get_or-append, get_or-eq_default}
use Rattle.window.specs.Within.{Agree}
use Rattle.register.specs.Module.{Register}
use Rattle.linker_spec.specs.Calls.{rebase_static}
use Rattle.history.specs.Below.{length_more}
use Rattle.history.specs.LoadedModule.{LoadCall, initialized, loaded, Image, LoadedModule, image_of, Area}
use Rattle.history.specs.Steps.Wp.{Memory}
use Rattle.history.specs.Steps.AllModulesShow.{Modules, put, put_same, put_other}
use Rattle.history.specs.Calls.Gone.{fewer}
use Rattle.history.specs.Calls.LinkedState.{AtRest, extended}
use Rattle.history.specs.Calls.Bringing.{brought}
use Rattle.history.specs.Calls.Loads.{rest_of}
use Rattle.history.specs.Calls.Between.{rest_agree}
use Rattle.history.specs.Sessions.Lists.{lacking, lacking-at, lacking-length}
use Rattle.history.specs.Sessions.Unique.{no_module, image_at}
use Rattle.history.specs.Sessions.Registers.{last-at}

-- the bytes at rest of what comes so, over the bytes B
unfoldable pub rest_for : LoadCall → Image → Memory → Memory
rest_for (initialized base size) m B = brought (rebase_static base) base B
rest_for (loaded l auto level) m B = rest_of l m level B

abbrev pub rest_of_module : LoadedModule → Memory
rest_of_module a = rest_for a.load_call (image_of a) a.bytes

abbrev pub standing_modules : List LoadedModule → Modules
standing_modules S = record { number = length S; image = image_at S; rest = λ k. rest_of_module (get_or S k no_module) }

-- they are a matter of the bytes of its areas alone
abbrev pub RestFromAreas : LoadedModule → Type 0
RestFromAreas a =
    (D : Memory) → Agree (Area (image_of a)) a.bytes D → Agree (Area (image_of a)) (rest_of_module a) (rest_for a.load_call (image_of a) D)

-- those of S stand at rest in M, and the register has their records
pub record Resting (S : List LoadedModule) (r : Register) (M : Memory) : Type 0 where
  pub rest : AtRest (standing_modules S) r M
  pub alike : (k : ℕ) → k < length S → RestFromAreas (get_or S k no_module)

-- bytes outside the areas do not matter
pub resting_agree
    : (S : List LoadedModule) {r : Register} {M N : Memory} → ((k : ℕ) → k < length S → Agree (Area (image_at S k)) M N) → Resting S r M → Resting S r N
resting_agree S e h = record { rest = rest_agree e h.rest; alike = h.alike }

modules_same : {n o : ℕ} {x y : ℕ → Image} {T U : ℕ → Memory} → n ≡ o → ((k : ℕ) → x k ≡ y k) → ((k : ℕ) → T k ≡ U k)
    → ◌≡◌ {A = Modules} (record { number = n; image = x; rest = T }) (record { number = o; image = y; rest = U })
modules_same {n} {o} {x} {y} {T} {U} e f g =
    ap {B = Modules} (λ i. record { number = i; image = x; rest = T }) e
    ∙ ap {B = Modules} (λ z. record { number = o; image = z; rest = T }) (fun_ext f)
    ∙ ap {B = Modules} (λ z. record { number = o; image = y; rest = z }) (fun_ext g)

-- one more at the end of the list
pub more-at
    : {B : Type 0} (f : LoadedModule → B) (S : List LoadedModule) (a : LoadedModule) (k : ℕ)
    → put (λ i. f (get_or S i no_module)) (length S) (f a) k ≡ f (get_or (S ++ (a ∷ [])) k no_module)
more-at {B} f S a k = go (ℕ_discrete k (length S)) (dec_lt k (length S))
  where
    x : ℕ → B
    x i = f (get_or S i no_module)

    go : Dec (k ≡ length S) → Dec (k < length S) → put x (length S) (f a) k ≡ f (get_or (S ++ (a ∷ [])) k no_module)
    go (yes e) l = rw e (put_same x (length S) (f a) ∙ ap f (sym (last-at S a no_module)))
    go (no o) (yes l) = put_other x (length S) (f a) k o ∙ ap f (sym (get_or-append S (a ∷ []) no_module k l))
    go (no o) (no l) =
        put_other x (length S) (f a) k o
        ∙ ap f (get_or-eq_default S no_module (omega arith)
        ∙ sym (get_or-eq_default (S ++ (a ∷ [])) no_module (omega (arith, length_more S a))))

pub modules_more : (S : List LoadedModule) (a : LoadedModule) → extended (standing_modules S) (image_of a) (rest_of_module a) ≡ standing_modules (S ++ (a ∷ []))
modules_more S a = modules_same (sym (length_more S a)) (more-at image_of S a) (more-at rest_of_module S a)

-- one less
pub modules_less : (S : List LoadedModule) (d : ℕ) → d < length S → fewer (standing_modules S) d ≡ standing_modules (lacking S d)
modules_less S d l =
    modules_same
    (let e = lacking-length S d l in let z : pred (length S) ≡ length (lacking S d) = omega (arith, e) in z)
    (λ k. ap image_of (sym (lacking-at S d no_module k)))
    (λ k. ap rest_of_module (sym (lacking-at S d no_module k)))
