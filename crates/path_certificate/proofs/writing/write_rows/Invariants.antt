use Rattle.std.proofs.Common.{◌≡◌, ◌++◌, take}
use Rattle.std.specs.List.{All}
use Rattle.path_certificate.specs.declared.text_row.TextRow.TheVariants as rows
use Rattle.path_certificate.specs.CertificateText.{rows_text, IsWritten}
use Rattle.path_certificate.proofs.writing.write_rows.Given as goal

abbrev pub invariant-loop-row : goal.invariant-loop-row
invariant-loop-row l = record {
  written : l.into.items ≡ l.initial.into.items ++ rows_text (take l.row-index l.rows);
  again : All (λ row. IsWritten (rows.Label row.0 row.1)) (take l.row-index l.rows);
}
