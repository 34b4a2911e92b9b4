-- The looped runs that the sources mean.
use Rattle.std.specs.Prelude.{Ok, Err, Result}
use Rattle.logic.specs.Run.{Run}
use Rattle.runs.specs.declared.fault.RunFault.{RunFault}
use Rattle.runs.specs.declared.looped.Looped.{Looped}
use Rattle.runs.specs.declared.pulses.Pulses.{Pulses}
use Rattle.runs.specs.declared.table.Words.{Words}
use Rattle.runs.specs.Looping.{looped}
use Rattle.runs.specs.Pulses.{pulses_of, pulsed}
use Rattle.runs.specs.Tables.{words_say}

abbrev pub table_meaning : {b : _} → Looped Words b → Run
table_meaning t = looped t.stem t.loop_length (words_say t.positions.0.now)

abbrev pub pulse_meaning : {b : _} → Looped Pulses b → Run
pulse_meaning p = looped p.stem p.loop_length (pulsed (pulses_of p.positions.0.now))

-- the run that a source means which was to be made, or why there is none
abbrev pub meant : {S : Type 0} → (S → Run) → Result S RunFault → Result Run RunFault
meant meaning (Ok source) = Ok (meaning source)
meant meaning (Err fault) = Err fault
