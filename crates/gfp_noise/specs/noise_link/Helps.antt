-- What is said of how to write a faulty line of a noise's text.
use Rattle.std.specs.Prelude.{List, ℕ, ◌++◌, codes, decimal}
use Rattle.text_lines.specs.declared.text_faults.LineFault.{LineFault}
use Rattle.text_help.specs.LineHelpTexts.{fault_text}
use Rattle.gfp_noise.specs.declared.noise_link.noise_keyword.NoiseKeyword.{NoiseKeyword}
use Rattle.gfp_noise.specs.declared.noise_link.noise_keyword.NoiseKeyword.TheVariants as word
use Rattle.gfp_noise.specs.declared.noise_link.noise_text_fault.NotRising.{NotRising}

abbrev pub keyword_text : NoiseKeyword → List ℕ
keyword_text word.Frame = codes "frame"
keyword_text word.Flip = codes "flip"

abbrev pub rising_text : NotRising → List ℕ
rising_text last =
    codes "flips rise by place and then by bit; the one before is " ++ decimal last.place ++ codes " "
    ++ decimal last.bit

abbrev pub help_of : LineFault NoiseKeyword NotRising → List ℕ
help_of fault = fault_text keyword_text (codes "frame, flip") rising_text fault
