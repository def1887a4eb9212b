mod LevelLaws
