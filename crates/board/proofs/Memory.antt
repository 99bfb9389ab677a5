-- A flat board's cells and the rest that it keeps are its memory. Assumes nothing.
use Rattle.std.proofs.Common.{◌≡◌, ℕ, ◌<◌, List, ◌++◌, get_or, take, drop, sym, ap, ◌∙◌, arith}
use Rattle.std.proofs.lemmas.List.FromFn.{fill_by_all}
use Rattle.std.proofs.lemmas.List.{length-take, get_or-take, take-append-drop}
use Rattle.std.proofs.lemmas.Bool.Decides.{nat_tests}
use Rattle.board.specs.Flat.{reach, flat_cells, flat_rest, flat_memory}

-- a byte that the memory reaches is the cell at its address
reached : (memory : List ℕ) (below a : ℕ) → a < reach memory → get_or (take 65536 memory) a 0 ≡ (flat_cells memory below).at a
reached memory below a h = let e = get_or-take 65536 memory a 0 (omega arith) in grind (arith, nat_tests)

pub memory_back : (memory : List ℕ) (below : ℕ) → memory ≡ flat_memory (flat_cells memory below) (flat_rest memory below)
memory_back memory below =
    let front = fill_by_all (flat_cells memory below).at (take 65536 memory) (reach memory) 0 (omega (arith, length-take 65536 memory)) (reached memory below) in
    sym (take-append-drop 65536 memory) ∙ ap (λ bytes. bytes ++ drop 65536 memory) front
