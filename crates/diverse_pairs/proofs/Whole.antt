-- A whole text, from what its parts say.
use Rattle.std.proofs.Common.{◌≡◌, ℕ, ◌+◌, List, ◌∷◌, length, None, Result, Ok, Err, refl, sym, ap, ◌∙◌}
use Rattle.std.specs.Str.Lines.{lines}
use Rattle.dom_base.specs.declared.names.As.{As}
use Rattle.line_text.specs.Lines.{NumberedLine, told_lines}
use Rattle.te_links.specs.Rows.{Rows}
use Rattle.te_text.specs.declared.error.TextError.{TextError}
use Rattle.te_text.specs.declared.error.TextError.TheVariants.{At, NoMemory}
use Rattle.te_text.specs.Given.{GivesText}
use Rattle.te_text.specs.Reading.{and_then}
use Rattle.diverse_pairs.specs.declared.certificate.PairCertificate.{PairCertificate}
use Rattle.diverse_pairs.specs.declared.certificate.PairForm.{PairForm}
use Rattle.path_certificate.specs.Text.{header_at}
use Rattle.diverse_pairs.specs.Text.{pair_word, body_in, lines_say, pair_in}

-- the lines of the text, and how many it has
pub text_is : (g : Rows) (bytes : List ℕ) (count : ℕ) (told : List NumberedLine) → told_lines bytes ≡ told → count ≡ length (lines bytes) →
    pair_in g bytes ≡ lines_say g (count + 1) told
unfolding pair_in
text_is g bytes count told told_are counted = ap (λ n. lines_say g (n + 1) (told_lines bytes)) (sym counted) ∙ ap (lines_say g (count + 1)) told_are

-- a header that is refused
pub header_stays : (g : Rows) (end : ℕ) (line : NumberedLine) (others : List NumberedLine) (e : TextError) (all : Result PairCertificate TextError) →
    all ≡ lines_say g end (line ∷ others) → Err e ≡ header_at pair_word g.own line → GivesText {X = PairCertificate} (Err e) all
header_stays g end line others (At number fault) all is at = is ∙ rw (sym at) refl
header_stays g end line others NoMemory all is at = tt

-- behind a good header
behind : (g : Rows) (end : ℕ) (line : NumberedLine) (others : List NumberedLine) (own : As) → Ok own ≡ header_at pair_word g.own line →
    lines_say g end (line ∷ others) ≡ and_then (body_in end None others) (λ form. Ok (record { own = own; form = form }))
behind g end line others own at = rw (sym at) refl

-- lines that are refused
pub body_stays : (g : Rows) (end : ℕ) (line : NumberedLine) (others : List NumberedLine) (own : As) (e : TextError) (all : Result PairCertificate TextError) →
    all ≡ lines_say g end (line ∷ others) → Ok own ≡ header_at pair_word g.own line → GivesText {X = PairForm} (Err e) (body_in end None others) → GivesText {X = PairCertificate} (Err e) all
body_stays g end line others own (At number fault) all is at said =
    is ∙ behind g end line others own at ∙ ap (λ (r : Result PairForm TextError). and_then r (λ form. Ok (record { own = own; form = form }))) said
body_stays g end line others own NoMemory all is at said = tt

-- lines that are accepted
pub body_accepted : (g : Rows) (end : ℕ) (line : NumberedLine) (others : List NumberedLine) (own : As) (form : PairForm) (all : Result PairCertificate TextError) →
    all ≡ lines_say g end (line ∷ others) → Ok own ≡ header_at pair_word g.own line → body_in end None others ≡ Ok form → all ≡ Ok (record { own = own; form = form })
body_accepted g end line others own form all is at said =
    is ∙ behind g end line others own at ∙ ap (λ (r : Result PairForm TextError). and_then r (λ f. Ok (record { own = own; form = f }))) said
