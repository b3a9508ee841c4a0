-- A topology that is loaded at a place is loaded by the element of the domain that stands there.
use Rattle.std.proofs.Common.{◌≡◌, ℕ, suc, Option, Some, Result, Ok, Err, List, map, get_or, set, refl, sym, ◌∙◌, ap, subst, inl, inr}
use Rattle.std.specs.Prelude.{◌↔◌, IfOk, OnErr, OnOk}
use Rattle.std.proofs.lemmas.List.{set-get_or}
use Rattle.pce_common.specs.plant_model.Types.{As}
use Rattle.te_links.specs.Rows.{Rows}
use Rattle.te_generations.specs.declared.generations.LoadError.{LoadError}
use Rattle.te_generations.specs.declared.generations.LoadError.TheVariants as load_error
use Rattle.pce_common.specs.plant_model.declared.outcome.Refused.{Refused}
use Rattle.pce_common.specs.plant_model.declared.outcome.Refused.TheVariants.{GenerationsFull, NoMemory}
use Rattle.pce_common.specs.plant_model.Plant.{Pin, Segment}
use Rattle.pce_element.specs.Seen.{Seen, SameButRoom}
use Rattle.network_members.specs.Elements.{own_of, at_domain, loaded, told, IsFirstAt, IsFull, LoadsAt, LoadsElement}
use Rattle.network_members.proofs.DomainLemmas.{first_own, at_first, set_first, owns_set}

-- what one element makes of it
pub record Loads (e : Seen Pin Segment) (g : Rows) (r : Result ℕ LoadError) (next : Seen Pin Segment) : Type 0 where
  pub number : IfOk r (λ k. k ≡ suc e.current.number)
  pub ok : OnOk r (SameButRoom (loaded g e) next)
  pub full : (r ≡ Err load_error.Full) ↔ IsFull e
  pub err : OnErr r (next ≡ e)

pub loads_at : (d : As) (i : ℕ) (g : Rows) (es : List (Seen Pin Segment)) (e next : Seen Pin Segment) (r : Result ℕ LoadError) → IsFirstAt d i (map own_of es) → e ≡ get_or es i e → Loads e g r next →
    LoadsAt (at_domain d es) g es (told r) (set es i next)
loads_at d i g es e next r first at loads = subst (λ (o : Option (Seen Pin Segment)). LoadsAt o g es (told r) (set es i next)) (sym (at_first d i es e first ∙ ap (λ (x : Seen Pin Segment). Some x) (sym at))) (go r loads)
  where
    ok_err : (k : ℕ) (why : Refused) → Ok k ≡ Err why → ⊥
    ok_err k why is = cc

    ok_load : (k : ℕ) (why : LoadError) → Ok k ≡ Err why → ⊥
    ok_load k why is = cc

    other : (let x : Result ℕ LoadError = Err load_error.NoMemory in x) ≡ Err load_error.Full → ⊥
    other is = cc

    apart : (let x : Result ℕ Refused = Err NoMemory in x) ≡ Err GenerationsFull → ⊥
    apart is = cc

    err_one : (a b : Refused) → (let x : Result ℕ Refused = Err a in x) ≡ Err b → a ≡ b
    err_one a b is = cc

    as_before : next ≡ e → set es i next ≡ es
    as_before is = ap (set es i) (is ∙ at) ∙ set-get_or es i e

    go : (x : Result ℕ LoadError) → Loads e g x next → LoadsElement e g es (told x) (set es i next)
    go (Ok k) h = record {
      number = h.number;
      ok = (next, h.ok, set_first d i es next (ap own_of h.ok ∙ ap own_of at ∙ first_own d i es e first) first);
      full = (λ is. absurd (ok_err k GenerationsFull is), λ full. absurd (ok_load k load_error.Full (h.full.1 full)));
      err = tt;
      why = λ why is. absurd (ok_err k why is);
    }
    go (Err load_error.Full) h = record {
      number = tt;
      ok = tt;
      full = (λ is. h.full.0 refl, λ full. refl);
      err = as_before h.err;
      why = λ why is. inl (sym (err_one GenerationsFull why is));
    }
    go (Err load_error.NoMemory) h = record {
      number = tt;
      ok = tt;
      full = (λ is. absurd (apart is), λ full. absurd (other (h.full.1 full)));
      err = as_before h.err;
      why = λ why is. inr (sym (err_one NoMemory why is));
    }

pub owns_kept : (i : ℕ) (g : Rows) (es : List (Seen Pin Segment)) (e next : Seen Pin Segment) (r : Result ℕ LoadError) → e ≡ get_or es i e → Loads e g r next → map own_of (set es i next) ≡ map own_of es
owns_kept i g es e next (Ok k) at h = owns_set i es next e (ap own_of h.ok ∙ ap own_of at)
owns_kept i g es e next (Err why) at h = owns_set i es next e (ap own_of h.err ∙ ap own_of at)
