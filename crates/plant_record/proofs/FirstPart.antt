-- A run begins.
use Rattle.std.proofs.Common.{◌≡◌, ℕ, List, [], ◌∷◌, ◌++◌, append-nil, Option, Some, None, Result, Ok, IfSome, OnOk, refl, sym, subst}
use Rattle.std.specs.Io.KnownBytes.{Appends}
use Rattle.dom_edge.specs.Folders.{Contents, Closes, Enters, Makes}
use Rattle.dom_edge.specs.Moments.{IsMomentText}
use Rattle.plant_text.specs.declared.settings.PeerRow.{PeerRow}
use Rattle.event_tape.specs.declared.told.Told.{Told}
use Rattle.plant_record.specs.Parts.{Title, settings_name}
use Rattle.plant_record.specs.Books.{Adds}
use Rattle.plant_record.specs.Standing.{IsBetween, IsFlushed, ScriptState, Stands}
use Rattle.plant_record.specs.Recording.{Begins}
use Rattle.plant_record.specs.declared.fault.Fault.{Fault}
use Rattle.plant_record.proofs.Books.{added}
use Rattle.plant_record.proofs.Standing.{appended, flushed}

-- a file was made, written and closed
module _ {F : Type 0} (written : F → Option (List ℕ)) where
  pub kept_file : (c d e : Option Contents) (name octets : List ℕ) (made full : F) → Makes written c d name (Ok made) → Appends (written made) (written full) octets → Closes d e name (written full) (Ok tt) → Adds c e ((name, octets) ∷ [])
  kept_file None d e name octets made full makes adds closes = tt
  kept_file (Some old) d e name octets made full makes adds closes =
      let known : written full ≡ Some octets = appended (written made) (written full) [] octets makes.2 adds in
      let closed : Closes (Some (record { names = old.names ++ name ∷ []; closed = old.closed })) e name (Some octets) (Ok tt) = subst (λ (o : Option (List ℕ)). Closes (Some (record { names = old.names ++ name ∷ []; closed = old.closed })) e name o (Ok tt)) known
      (subst (λ (x : Option Contents). Closes x e name (written full) (Ok tt)) makes.1 closes) in
      (record { names = old.names ++ name ∷ []; closed = old.closed ++ (name, octets) ∷ [] }, closed.1, refl)

-- nothing was closed
pub same_adds : (c d : Option Contents) → d ≡ c → Adds c d []
same_adds None d same = tt
same_adds (Some old) d same = (old, same, sym (append-nil old.closed))

made_adds : {F : Type 0} (written : F → Option (List ℕ)) (c d : Option Contents) (name : List ℕ) (made : F) → Makes written c d name (Ok made) → Adds c d []
made_adds written None d name made makes = tt
made_adds written (Some old) d name made makes = (record { names = old.names ++ name ∷ []; closed = old.closed }, makes.1, sym (append-nil old.closed))

-- a file was made, and nothing more was closed
pub left_adds : {F : Type 0} (written : F → Option (List ℕ)) (c d e : Option Contents) (name : List ℕ) (made : F) → Makes written c d name (Ok made) → e ≡ d → Adds c e []
left_adds written c d e name made makes same = subst (λ (x : Option Contents). Adds c x []) (sym same) (made_adds written c d name made makes)

-- a file of another name for the same
pub adds_named : (c d : Option Contents) (name other text octets : List ℕ) (result : Result (Unit {0}) Fault) → name ≡ other → text ≡ octets → OnOk result (Adds c d ((name, text) ∷ [])) → OnOk result (Adds c d ((other, octets) ∷ []))
adds_named c d name other text octets result named same is = subst (λ (n : List ℕ). OnOk result (Adds c d ((n, octets) ∷ []))) named (subst (λ (x : List ℕ). OnOk result (Adds c d ((name, x) ∷ []))) same is)

-- a script of no part
abbrev pub fresh : {F : Type 0} → List ℕ → List ℕ → ScriptState F
fresh name version = record { file = None; number = 0; pending = []; loads = 0; events = 0; tick = 0; name = name; version = version }

module _ {F : Type 0} (written : F → Option (List ℕ)) (seconds : ℕ) (settings version name : List ℕ) (c d e f : Option Contents) (s u v : ScriptState F) (entered : Enters c d name (Ok tt)) (adds : Adds d e ((settings_name, settings) ∷ [])) (is : s ≡ fresh name version)
    (opens : (peers : List PeerRow) (t : Title) (told : List Told) → IsBetween peers t told s e → Stands written peers t told u f) (flush : IsFlushed written u v) (text : IsMomentText seconds name) where
  abbrev title : Title
  title = record { name = name; version = version; settings = settings }

  between : (old : Contents) → c ≡ Some old → (peers : List PeerRow) → IsBetween peers title [] s e
  between old known peers =
      let empty : Enters (Some old) d name (Ok tt) = subst (λ (x : Option Contents). Enters x d name (Ok tt)) known entered in
      let (now, here, closed) = added (record { names = []; closed = [] }) d e ((settings_name, settings) ∷ []) empty.1 adds in
      subst (λ (x : ScriptState F). IsBetween peers title [] x e) (sym is) (record {
        book = [];
        is_kept = record { sound = tt; contents = now; is = here; closed = closed };
        topologies_are = refl;
        is = refl;
        none = refl;
        counted = record { number_is = refl; loads_are = refl; events_are = refl; tick_is = refl; name_is = refl; version_is = refl };
      })

  begins : (old : Contents) → c ≡ Some old → (peers : List PeerRow) → Begins written peers seconds settings version v f
  begins old known peers = record {
    title = title;
    name_is = text;
    version_is = refl;
    settings_are = refl;
    stands = flushed written peers title [] u v f flush (opens peers title [] (between old known peers));
  }

  known_begins : (o : Option Contents) → c ≡ o → IfSome o (λ _. (peers : List PeerRow) → Begins written peers seconds settings version v f)
  known_begins None known = tt
  known_begins (Some old) known = begins old known

  pub begun : IfSome c (λ _. (peers : List PeerRow) → Begins written peers seconds settings version v f)
  begun = known_begins c refl
