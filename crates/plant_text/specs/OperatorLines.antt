-- What a line of an operator asks for. Words are as in lines of events.
use Rattle.std.specs.Prelude.{ℕ, codes, find, position, List, [], ◌∷◌, Option, Some, None, if◌then◌else◌}
use Rattle.std.specs.Str.{bytes_eq}
use Rattle.dom_base.specs.declared.names.As.{As}
use Rattle.dom_base.specs.Steps.{◌>>=◌}
use Rattle.line_text.specs.Lines.{is_skipped}
use Rattle.line_text.specs.Words.{words_of}
use Rattle.plant_text.specs.declared.operator_line.OperatorLine.{OperatorLine}
use Rattle.plant_text.specs.declared.operator_line.OperatorLine.TheVariants as line
use Rattle.plant_text.specs.declared.operator_line.Subject.{Subject}
use Rattle.plant_text.specs.declared.operator_line.Subject.TheVariants as subject
use Rattle.plant_text.specs.declared.operator_verb.OperatorVerb.{OperatorVerb}
use Rattle.plant_text.specs.declared.operator_verb.OperatorVerb.TheVariants as verb
use Rattle.plant_text.specs.declared.settings.NetworkParts.{NetworkParts}
use Rattle.plant_text.specs.declared.settings.PeerRow.{PeerRow}
use Rattle.plant_text.specs.Lines.{as_in, both, file_in, first, last, only, peer_in}

-- ---- the first word

abbrev pub verb_word : OperatorVerb → List ℕ
verb_word verb.Load = codes "load"
verb_word verb.Change = codes "change"
verb_word verb.Stop = codes "stop"
verb_word verb.Show = codes "show"
verb_word verb.Shut = codes "shut"
verb_word verb.Break = codes "break"
verb_word verb.Write = codes "write"

abbrev pub verbs : List OperatorVerb
verbs = verb.Load ∷ verb.Change ∷ verb.Stop ∷ verb.Show ∷ verb.Shut ∷ verb.Break ∷ verb.Write ∷ []

abbrev pub verb_in : List ℕ → Option OperatorVerb
verb_in word = find (λ v. bytes_eq word (verb_word v)) verbs

-- ---- the words behind it

-- a number is an element's; any other word is a peer's name, which no number is
abbrev pub named : Option As → Option ℕ → Subject
named (Some at) peer = subject.Element at
named None peer = subject.Peer peer

abbrev pub subject_of : List PeerRow → List ℕ → Subject
subject_of peers word = named (as_in word) (position (λ (p : PeerRow). bytes_eq p.name word) peers)

-- all, or the one that the word names
abbrev pub subject_in : List PeerRow → List (List ℕ) → Option Subject
subject_in peers [] = Some subject.All
subject_in peers (word ∷ words) = last (subject_of peers word) words

-- what the words behind the first one say
unfoldable pub behind : List PeerRow → OperatorVerb → List (List ℕ) → Option OperatorLine
behind peers verb.Load words = both as_in file_in words >>= λ p. Some (line.Load p.0 p.1)
behind peers verb.Change words = both as_in file_in words >>= λ p. Some (line.Change p.0 p.1)
behind peers verb.Stop words = last line.Stop words
behind peers verb.Show words = subject_in peers words >>= λ s. Some (line.Show s)
behind peers verb.Shut words = only (peer_in peers) words >>= λ p. Some (line.Shut p)
behind peers verb.Break words = both as_in as_in words >>= λ p. Some (line.Break p.0 p.1)
behind peers verb.Write words = both as_in file_in words >>= λ p. Some (line.Write p.0 p.1)

-- what the words of a line ask for
abbrev pub words_in : List PeerRow → List (List ℕ) → Option OperatorLine
words_in peers words = first verb_in words >>= λ v. behind peers v.0 v.1

-- what a line of an operator asks for; one that is blank or a comment asks for nothing
abbrev pub line_in : NetworkParts → List ℕ → Option (Option OperatorLine)
line_in n line = if is_skipped line then Some None else (words_of line >>= words_in n.peers >>= λ a. Some (Some a))
