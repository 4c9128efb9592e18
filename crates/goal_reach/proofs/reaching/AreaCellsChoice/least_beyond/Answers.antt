use Rattle.goal_reach.proofs.reaching.AreaCellsChoice.least_beyond.Goals as goal

pub returns : goal.returns
returns g c = λ cell inside off. (let it = c.args.self.now in c.least_remoteness.ensures (g.M.View.extent it.map.now) it.frame cell c.requires.sound.3 inside off)
