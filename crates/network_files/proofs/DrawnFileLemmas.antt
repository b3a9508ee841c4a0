-- The files of all domains.
use Rattle.std.proofs.Common.{◌≡◌, ◌+◌, ℕ, Result, Ok, Err, List, [], ◌∷◌, sym, subst, arith}
use Rattle.std.specs.Result.{IfOk}
use Rattle.dom_base.specs.declared.names.NoMemory.{NoMemory}
use Rattle.network_files.specs.DrawnFiles.{AreFiles, IsFile}

abbrev File : Type 0
File = List ℕ × List ℕ

pub all_files : (i j k l : ℕ) (a b c d : File) (r : Result (List File) NoMemory) → i ≡ 0 → j ≡ i + 212 → k ≡ j + 212 → l ≡ k + 212 → IsFile 1 i a → IsFile 2 j b → IsFile 3 k c → IsFile 4 l d →
    IfOk r (λ files. files ≡ a ∷ b ∷ c ∷ d ∷ []) → IfOk r AreFiles
all_files i j k l a b c d (Err why) i_is j_is k_is l_is p q r s are = are
all_files i j k l a b c d (Ok files) i_is j_is k_is l_is p q r s are =
    let second : j ≡ 212 = omega (arith, i_is, j_is) in
    let third : k ≡ 424 = omega (arith, second, k_is) in
    let fourth : l ≡ 636 = omega (arith, third, l_is) in
    subst AreFiles (sym are)
    (subst (λ (n : ℕ). IsFile 1 n a) i_is p, (subst (λ (n : ℕ). IsFile 2 n b) second q, (subst (λ (n : ℕ). IsFile 3 n c) third r, (subst (λ (n : ℕ). IsFile 4 n d) fourth s, tt))))
