use Rattle.plank_sem.proofs.SoundWorlds.{run_good, good_sound}
use Rattle.plank_sem.proofs.Sizes.{run_sizes}
use Rattle.plank_sem.proofs.NumberedNodes.{run_numbered}
use Rattle.plank_sem.proofs.laws.world_facts_law.Goals as goal

pub returns : goal.returns
returns c = record {
  fits = λ h methods choices told ghosts header lawful run i g at. ((run_good header lawful run).good i g at).fits;
  sound = λ h methods choices told ghosts header lawful run i g at. good_sound h methods g ((run_good header lawful run).good i g at);
  sizes = λ h methods choices told ghosts run i g at. run_sizes run i g at;
  numbered = λ h methods choices told ghosts header lawful run i g at. run_numbered h methods header lawful run i g at;
  stays = λ h methods choices told ghosts header lawful run i k later earlier le at was. (run_good header lawful run).stays i k later earlier le at was;
}
