-- Refusals, beside want of memory.
use Rattle.std.specs.Prelude.{◌≡◌, ◌⊎◌}
use Rattle.notation.specs.declared.fault.LineFault.{LineFault}
use Rattle.notation.specs.declared.fault.LineFault.TheVariants.{NoMemory}

-- there was no memory, or P holds
abbrev pub OrMemory : LineFault → Type 0 → Type 0
OrMemory f P = (f ≡ NoMemory) ⊎ P
