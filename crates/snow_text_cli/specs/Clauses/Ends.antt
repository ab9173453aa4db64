-- How the program ends where showing or making a stream ends so.
use Rattle.snow_text.specs.declared.streaming.ShowEnd.{ShowEnd}
use Rattle.snow_text.specs.declared.streaming.ShowEnd.TheVariants as shown
use Rattle.snow_text.specs.declared.whole.MakeEnd.{MakeEnd}
use Rattle.snow_text.specs.declared.whole.MakeEnd.TheVariants as made
use Rattle.snow_text_cli.specs.declared.finish.Finish.{Finish}
use Rattle.snow_text_cli.specs.declared.finish.Finish.TheVariants as finish

abbrev pub finish_of_show : ShowEnd → Finish
finish_of_show shown.Done = finish.Done
finish_of_show shown.InputLimit = finish.Limit
finish_of_show shown.SourceFault = finish.SourceFault
finish_of_show shown.SinkFault = finish.SinkFault
finish_of_show shown.Memory = finish.Memory

abbrev pub finish_of_make : MakeEnd → Finish
finish_of_make made.Done = finish.Done
finish_of_make (made.Refused refusal) = finish.Refused refusal
finish_of_make made.InputLimit = finish.Limit
finish_of_make made.SourceFault = finish.SourceFault
finish_of_make made.SinkFault = finish.SinkFault
finish_of_make made.Memory = finish.Memory
