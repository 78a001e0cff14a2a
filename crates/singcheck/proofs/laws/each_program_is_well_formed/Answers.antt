use Rattle.singcheck.proofs.FormedLemmas.{bare_of, formed_of, sound_of}
use Rattle.singcheck.proofs.laws.each_program_is_well_formed.Goals as goal

pub returns-clause-formed : goal.returns-clause-formed
returns-clause-formed c = formed_of (record {
  whole = c.clean_contracts_are_whole.ensures;
  formed = c.clean_methods_are_well_formed.ensures.formed;
  bare = c.clean_methods_are_well_formed.ensures.bare;
})

pub returns-clause-sound : goal.returns-clause-sound
returns-clause-sound c = sound_of (record {
  whole = c.clean_contracts_are_whole.ensures;
  formed = c.clean_methods_are_well_formed.ensures.formed;
  bare = c.clean_methods_are_well_formed.ensures.bare;
})

pub returns-clause-bare : goal.returns-clause-bare
returns-clause-bare c = bare_of (record {
  whole = c.clean_contracts_are_whole.ensures;
  formed = c.clean_methods_are_well_formed.ensures.formed;
  bare = c.clean_methods_are_well_formed.ensures.bare;
})
