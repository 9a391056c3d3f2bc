-- The design that is made for a count of nets: two layers, one via, and nets without pins.
-- Models: lines of a SPECCTRA design. Cited by `make`
use Rattle.std.specs.Prelude.{ℕ, List, ◌++◌, codes, decimal}
use Rattle.std.specs.List.{flat_map, range_with_len}

-- what stands before the nets
abbrev pub front_text : List ℕ
front_text =
    codes "(pcb made.dsn\n"
    ++ (codes "(unit um)\n"
    ++ (codes "(structure\n"
    ++ (codes "(layer L1 (type signal))\n"
    ++ (codes "(layer L2 (type signal))\n"
    ++ (codes "(via V)\n"
    ++ (codes "(rule (width 100) (clearance 100))\n"
    ++ (codes ")\n"
    ++ (codes "(library\n"
    ++ (codes "(padstack V (shape (circle L1 400)) (shape (circle L2 400)))\n"
    ++ (codes ")\n"
    ++ codes "(network\n"))))))))))

-- the line of a net
abbrev pub net_line : ℕ → List ℕ
net_line net = codes "(net N" ++ (decimal net ++ codes ")\n")

-- the design with so many nets, numbered from 0
abbrev pub design_text : ℕ → List ℕ
design_text count = front_text ++ (flat_map net_line (range_with_len 0 count) ++ codes ")\n)\n")
